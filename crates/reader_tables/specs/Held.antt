-- Rows stored one after the other: what the table then begins with, and what stays as it was.
use Rattle.std.specs.Prelude.{ℕ, suc, ◌+◌, ◌*◌, ◌≤◌, ◌≡◌, refl, List, [], ◌∷◌, ◌++◌, map, length, take, drop, set, ℤ}
use Rattle.std.proofs.Common.{arith, sym, ap, ◌∙◌, subst, drop-set-lt, take_at}
use Rattle.std.proofs.lemmas.List.Edits.{sets, sets-eq}
use Rattle.rules.specs.Forms.{Atom, Bond}
use Rattle.rules.specs.Meaning.{bond_numbers}
use Rattle.reader_tables.specs.Row.{raw_row, raw_rows, bond_rows, flat, Holds}

-- ---- any rows

-- stores end before place k
pub drop_sets : (vs t : List ℤ) (i k : ℕ) → i + length vs ≤ k → drop k (sets t i vs) ≡ drop k t
drop_sets [] t i k h = refl
drop_sets (v ∷ vs) t i k h = drop_sets vs (set t i v) (suc i) k (omega arith) ∙ drop-set-lt k t i v (omega arith)

-- what the table begins with, and so many numbers more
pub holds_more : (t vs ws : List ℤ) → Holds t vs → length vs + length ws ≤ length t → Holds (sets t (length vs) ws) (vs ++ ws)
holds_more t vs ws e h =
    ap (take (length (vs ++ ws))) (sets-eq ws t (length vs) h ∙ ap (λ (x : List ℤ). x ++ ws ++ drop (length vs + length ws) t) e)
    ∙ take_at (vs ++ ws) (drop (length vs + length ws) t) (length (vs ++ ws)) refl

-- ---- rows of atoms

pub length_rows : (xs : List Atom) → length (raw_rows xs) ≡ 16 * length xs
unfolding raw_rows
length_rows [] = refl
length_rows (a ∷ xs) = omega (arith, length_rows xs)

pub rows_more : (xs : List Atom) (a : Atom) → raw_rows (xs ++ (a ∷ [])) ≡ raw_rows xs ++ raw_row a
unfolding raw_rows
rows_more [] a = refl
rows_more (x ∷ xs) a = ap (λ (r : List ℤ). raw_row x ++ r) (rows_more xs a)

module _ (t : List ℤ) (xs : List Atom) (a : Atom) where
  abbrev pub atom_stored : List ℤ
  atom_stored = sets t (16 * length xs) (raw_row a)

  pub atom_held : Holds t (raw_rows xs) → 16 * (length xs + 1) ≤ length t → Holds atom_stored (raw_rows (xs ++ (a ∷ [])))
  atom_held e h =
      let n : length (raw_rows xs) ≡ 16 * length xs = length_rows xs in
      subst (λ (vs : List ℤ). Holds atom_stored vs) (sym (rows_more xs a))
      (subst (λ (i : ℕ). Holds (sets t i (raw_row a)) (raw_rows xs ++ raw_row a)) n (holds_more t (raw_rows xs) (raw_row a) e (omega arith)))

-- ---- rows of bonds

pub length_bond_rows : (bs : List Bond) → length (bond_rows bs) ≡ 6 * length bs
unfolding bond_rows
length_bond_rows [] = refl
length_bond_rows (b ∷ bs) = omega (arith, length_bond_rows bs)

pub bond_rows_more : (bs : List Bond) (b : Bond) → bond_rows (bs ++ (b ∷ [])) ≡ bond_rows bs ++ bond_numbers b
unfolding bond_rows
bond_rows_more [] b = refl
bond_rows_more (x ∷ bs) b = ap (λ (r : List ℤ). bond_numbers x ++ r) (bond_rows_more bs b)

module _ (t : List ℤ) (bs : List Bond) (b : Bond) where
  abbrev pub bond_stored : List ℤ
  bond_stored = sets t (6 * length bs) (bond_numbers b)

  pub bond_held : Holds t (bond_rows bs) → 6 * (length bs + 1) ≤ length t → Holds bond_stored (bond_rows (bs ++ (b ∷ [])))
  bond_held e h =
      let n : length (bond_rows bs) ≡ 6 * length bs = length_bond_rows bs in
      subst (λ (vs : List ℤ). Holds bond_stored vs) (sym (bond_rows_more bs b))
      (subst (λ (i : ℕ). Holds (sets t i (bond_numbers b)) (bond_rows bs ++ bond_numbers b)) n (holds_more t (bond_rows bs) (bond_numbers b) e (omega arith)))

-- the rows of a reading's bonds
pub bond_rows_flat : (bs : List Bond) → flat (map bond_numbers bs) ≡ bond_rows bs
unfolding flat bond_rows
bond_rows_flat [] = refl
bond_rows_flat (b ∷ bs) = ap (λ (r : List ℤ). bond_numbers b ++ r) (bond_rows_flat bs)
