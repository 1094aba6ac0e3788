-- A table that holds the rows of bonds, one after the other from its first place on, is a table of these bonds.
use Rattle.std.specs.Prelude.{ℕ, zero, suc, ◌+◌, ◌*◌, ◌≤◌, ◌<◌, ◌≡◌, refl, ℤ, pos, nat_abs, length, get_or}
use Rattle.std.proofs.Common.{arith, sym, ap, ap₂, ◌∙◌, subst, length-append}
use mathlib.Core.List.{List, [], ◌∷◌, ◌++◌}
use Rattle.rules.specs.Forms.{Bond}
use Rattle.rules.specs.Record.{limit}
use Rattle.rules.specs.Meaning.{bond_numbers}
use Rattle.piece_rules.specs.Pieces.{Inside}
use Rattle.piece_labels.specs.Table.{atom_at, bond_at, bonds_from, bonds_in, AtomIn, BondTable}

-- row k of the table holds the numbers of this bond
pub record RowIs (t : List ℤ) (k : ℕ) (b : Bond) : Type 0 where
  pub first : get_or t (6 * k) (pos 0) ≡ pos b.first
  pub second : get_or t (6 * k + 1) (pos 0) ≡ pos b.second
  pub type : get_or t (6 * k + 2) (pos 0) ≡ pos b.type
  pub stereo : get_or t (6 * k + 3) (pos 0) ≡ pos b.stereo
  pub topology : get_or t (6 * k + 4) (pos 0) ≡ pos b.topology
  pub centre : get_or t (6 * k + 5) (pos 0) ≡ b.centre

-- the rows from row k on
unfoldable pub RowsFrom : List ℤ → ℕ → List Bond → Type 0
RowsFrom t k [] = Unit {0}
RowsFrom t k (b ∷ bs) = RowIs t k b × RowsFrom t (suc k) bs

at_is : (t : List ℤ) (i a : ℕ) → get_or t i (pos 0) ≡ pos a → atom_at t i ≡ a
unfolding atom_at
at_is t i a e = ap nat_abs e

atom_in : (n : ℕ) (t : List ℤ) (i a : ℕ) → get_or t i (pos 0) ≡ pos a → 1 ≤ a → a ≤ n → AtomIn n t i
atom_in n t i a e l h = let q = at_is t i a e in record { is = e ∙ ap pos (sym q); low = omega arith; high = omega arith }

bond_is_lem : (t : List ℤ) (k : ℕ) (b : Bond) → RowIs t k b → bond_at t k ≡ b
bond_is_lem t k b g =
    let f = at_is t (6 * k) b.first g.first in
    let s = at_is t (6 * k + 1) b.second g.second in
    let y = at_is t (6 * k + 2) b.type g.type in
    let o = at_is t (6 * k + 3) b.stereo g.stereo in
    let p = at_is t (6 * k + 4) b.topology g.topology in
    λ i. record { first = f i; second = s i; type = y i; stereo = o i; topology = p i; centre = g.centre i }

bonds_from_lem : (t : List ℤ) (k : ℕ) (bs : List Bond) → RowsFrom t k bs → bonds_from t k (length bs) ≡ bs
unfolding RowsFrom bonds_from
bonds_from_lem t k [] g = refl
bonds_from_lem t k (b ∷ bs) g = ap₂ (λ (x : Bond) (xs : List Bond). x ∷ xs) (bond_is_lem t k b g.0) (bonds_from_lem t (suc k) bs g.1)

pub rows_bonds : (t : List ℤ) (bs : List Bond) → RowsFrom t 0 bs → bonds_in t (length bs) ≡ bs
rows_bonds t bs g = bonds_from_lem t 0 bs g

ends_in_lem : (n : ℕ) (t : List ℤ) (k : ℕ) (bs : List Bond) → RowsFrom t k bs → Inside n bs → (j : ℕ) → j < length bs →
    AtomIn n t (6 * (k + j)) × AtomIn n t (6 * (k + j) + 1)
unfolding RowsFrom Inside
ends_in_lem n t k [] g i j h = absurd (omega arith)
ends_in_lem n t k (b ∷ bs) g i zero h =
    let e : k ≡ k + 0 = omega arith in
    subst (λ (x : ℕ). AtomIn n t (6 * x) × AtomIn n t (6 * x + 1)) e
    (atom_in n t (6 * k) b.first g.0.first i.0.0 i.0.1, atom_in n t (6 * k + 1) b.second g.0.second i.0.2 i.0.3)
ends_in_lem n t k (b ∷ bs) g i (suc j) h =
    let e : suc k + j ≡ k + suc j = omega arith in
    subst (λ (x : ℕ). AtomIn n t (6 * x) × AtomIn n t (6 * x + 1)) e (ends_in_lem n t (suc k) bs g.1 i.1 j (omega arith))

pub rows_table : (n : ℕ) (t : List ℤ) (bs : List Bond) → n ≤ limit → 6 * length bs ≤ length t → RowsFrom t 0 bs → Inside n bs → BondTable n (length bs) t
rows_table n t bs few room g i =
    record { few = few; room = room; first = λ k h. (at k h).0; second = λ k h. (at k h).1 }
  where
    at : (k : ℕ) → k < length bs → AtomIn n t (6 * k) × AtomIn n t (6 * k + 1)
    at k h = let e : 0 + k ≡ k = omega arith in subst (λ (x : ℕ). AtomIn n t (6 * x) × AtomIn n t (6 * x + 1)) e (ends_in_lem n t 0 bs g i k h)

-- ---- Rows laid one after the other

unfoldable pub rows_of : List Bond → List ℤ
rows_of [] = []
rows_of (b ∷ bs) = bond_numbers b ++ rows_of bs

abbrev six : ℕ → ℕ
six k = suc (suc (suc (suc (suc (suc k)))))

-- six numbers in front
module _ (p q r s u v : ℤ) (t : List ℤ) where
  abbrev longer : List ℤ
  longer = p ∷ q ∷ r ∷ s ∷ u ∷ v ∷ t

  later_at : (i j : ℕ) (z : ℤ) → j ≡ six i → get_or t i (pos 0) ≡ z → get_or longer j (pos 0) ≡ z
  later_at i j z e g = ap (λ (x : ℕ). get_or longer x (pos 0)) e ∙ g

  row_shift : (k : ℕ) (b : Bond) → RowIs t k b → RowIs longer (suc k) b
  row_shift k b g =
      record {
        first = later_at (6 * k) (6 * suc k) (pos b.first) (omega arith) g.first;
        second = later_at (6 * k + 1) (6 * suc k + 1) (pos b.second) (omega arith) g.second;
        type = later_at (6 * k + 2) (6 * suc k + 2) (pos b.type) (omega arith) g.type;
        stereo = later_at (6 * k + 3) (6 * suc k + 3) (pos b.stereo) (omega arith) g.stereo;
        topology = later_at (6 * k + 4) (6 * suc k + 4) (pos b.topology) (omega arith) g.topology;
        centre = later_at (6 * k + 5) (6 * suc k + 5) b.centre (omega arith) g.centre;
      }

  rows_shift : (k : ℕ) (bs : List Bond) → RowsFrom t k bs → RowsFrom longer (suc k) bs
  unfolding RowsFrom
  rows_shift k [] g = tt
  rows_shift k (b ∷ bs) g = (row_shift k b g.0, rows_shift (suc k) bs g.1)

rows_hold : (bs : List Bond) (rest : List ℤ) → RowsFrom (rows_of bs ++ rest) 0 bs
unfolding RowsFrom rows_of
rows_hold [] rest = tt
rows_hold (b ∷ bs) rest = (
  record { first = refl; second = refl; type = refl; stereo = refl; topology = refl; centre = refl },
  rows_shift (pos b.first) (pos b.second) (pos b.type) (pos b.stereo) (pos b.topology) b.centre (rows_of bs ++ rest) 0 bs (rows_hold bs rest),
)

length_rows : (bs : List Bond) → length (rows_of bs) ≡ 6 * length bs
unfolding rows_of
length_rows [] = refl
length_rows (b ∷ bs) = omega (arith, length_rows bs)

-- the table that a good reading fills
pub filled_table : (n : ℕ) (bs : List Bond) (rest : List ℤ) → n ≤ limit → Inside n bs → BondTable n (length bs) (rows_of bs ++ rest)
filled_table n bs rest few i =
    rows_table n (rows_of bs ++ rest) bs few (omega (arith, length-append (rows_of bs) rest, length_rows bs)) (rows_hold bs rest) i

-- and its bonds are those of the record
pub filled_bonds : (bs : List Bond) (rest : List ℤ) → bonds_in (rows_of bs ++ rest) (length bs) ≡ bs
filled_bonds bs rest = rows_bonds (rows_of bs ++ rest) bs (rows_hold bs rest)
