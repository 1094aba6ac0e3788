-- The names an atom can have. An element's place in the list is its atomic number; the last four names are no elements.
use Rattle.std.specs.Prelude.{ℕ, ◌-◌, ◌≤◌, ◌≡◌, refl, List, [], ◌∷◌, get_or, length}
use Prim.Native.String.{String}
use Rattle.text.specs.Text.{Bytes, bytes}
use Rattle.text.specs.Columns.{columns}

abbrev pub names : List String
names =
    "H" ∷ "He" ∷ "Li" ∷ "Be" ∷ "B" ∷ "C" ∷ "N" ∷ "O" ∷ "F" ∷ "Ne" ∷
    "Na" ∷ "Mg" ∷ "Al" ∷ "Si" ∷ "P" ∷ "S" ∷ "Cl" ∷ "Ar" ∷ "K" ∷ "Ca" ∷
    "Sc" ∷ "Ti" ∷ "V" ∷ "Cr" ∷ "Mn" ∷ "Fe" ∷ "Co" ∷ "Ni" ∷ "Cu" ∷ "Zn" ∷
    "Ga" ∷ "Ge" ∷ "As" ∷ "Se" ∷ "Br" ∷ "Kr" ∷ "Rb" ∷ "Sr" ∷ "Y" ∷ "Zr" ∷
    "Nb" ∷ "Mo" ∷ "Tc" ∷ "Ru" ∷ "Rh" ∷ "Pd" ∷ "Ag" ∷ "Cd" ∷ "In" ∷ "Sn" ∷
    "Sb" ∷ "Te" ∷ "I" ∷ "Xe" ∷ "Cs" ∷ "Ba" ∷ "La" ∷ "Ce" ∷ "Pr" ∷ "Nd" ∷
    "Pm" ∷ "Sm" ∷ "Eu" ∷ "Gd" ∷ "Tb" ∷ "Dy" ∷ "Ho" ∷ "Er" ∷ "Tm" ∷ "Yb" ∷
    "Lu" ∷ "Hf" ∷ "Ta" ∷ "W" ∷ "Re" ∷ "Os" ∷ "Ir" ∷ "Pt" ∷ "Au" ∷ "Hg" ∷
    "Tl" ∷ "Pb" ∷ "Bi" ∷ "Po" ∷ "At" ∷ "Rn" ∷ "Fr" ∷ "Ra" ∷ "Ac" ∷ "Th" ∷
    "Pa" ∷ "U" ∷ "Np" ∷ "Pu" ∷ "Am" ∷ "Cm" ∷ "Bk" ∷ "Cf" ∷ "Es" ∷ "Fm" ∷
    "Md" ∷ "No" ∷ "Lr" ∷ "Rf" ∷ "Db" ∷ "Sg" ∷ "Bh" ∷ "Hs" ∷ "Mt" ∷ "Ds" ∷
    "Rg" ∷ "Cn" ∷ "Nh" ∷ "Fl" ∷ "Mc" ∷ "Lv" ∷ "Ts" ∷ "Og" ∷ "A" ∷ "Q" ∷
    "*" ∷ "LP" ∷
    []

abbrev pub name : ℕ → String
name k = get_or names (k - 1) ""

-- how many symbols there are
abbrev pub symbols_all : ℕ
symbols_all = length names

-- three columns hold name k, from the first of them on, and spaces where the name is shorter
pub record Symbol (cs : Bytes) (k : ℕ) : Type 0 where
  pub low : 1 ≤ k
  pub high : k ≤ symbols_all
  pub text : cs ≡ columns (bytes (name k)) 1 3

pub names_all : symbols_all ≡ 122
names_all = refl
