-- Rows of the lent tables: an atom is 16 numbers, a bond 6. While a record is read, an atom's row holds the charge code in the place of the charge, and no radical and no isotope.
use Rattle.std.specs.Prelude.{◌≤◌, ◌≡◌, List, [], ◌∷◌, ◌++◌, length, take, ℤ, pos}
use Rattle.rules.specs.Forms.{Atom, Bond}
use Rattle.rules.specs.Meaning.{bond_numbers}

-- an atom as its line has it
abbrev pub raw_row : Atom → List ℤ
raw_row a =
    a.x ∷ a.y ∷ a.z ∷ pos a.symbol ∷
    a.mass_difference ∷ pos a.charge_code ∷ pos 0 ∷ pos 0 ∷
    pos a.parity ∷ pos a.hydrogen_count ∷ pos a.stereo_care ∷ pos a.valence ∷
    pos a.H0 ∷ pos a.atom_map ∷ pos a.inversion ∷ pos a.exact_change ∷ []

-- one row after the other
unfoldable pub flat : List (List ℤ) → List ℤ
flat [] = []
flat (r ∷ rs) = r ++ flat rs

unfoldable pub raw_rows : List Atom → List ℤ
raw_rows [] = []
raw_rows (a ∷ xs) = raw_row a ++ raw_rows xs

unfoldable pub bond_rows : List Bond → List ℤ
bond_rows [] = []
bond_rows (b ∷ bs) = bond_numbers b ++ bond_rows bs

-- the table begins with these numbers
abbrev pub Holds : List ℤ → List ℤ → Type 0
Holds t vs = take (length vs) t ≡ vs

-- what columns can hold fits a place of the table
pub record SmallAtom (a : Atom) : Type 0 where
  pub symbol : a.symbol ≤ 999
  pub charge_code : a.charge_code ≤ 999
  pub parity : a.parity ≤ 999
  pub hydrogen_count : a.hydrogen_count ≤ 999
  pub stereo_care : a.stereo_care ≤ 999
  pub valence : a.valence ≤ 999
  pub H0 : a.H0 ≤ 999
  pub atom_map : a.atom_map ≤ 999
  pub inversion : a.inversion ≤ 999
  pub exact_change : a.exact_change ≤ 999

pub record SmallBond (b : Bond) : Type 0 where
  pub first : b.first ≤ 999
  pub second : b.second ≤ 999
  pub type : b.type ≤ 999
  pub stereo : b.stereo ≤ 999
  pub topology : b.topology ≤ 999
