-- The walk over bonds finds no repeat exactly if no pair stands twice.
use Prim.Native.Nat.{ℕ, zero, suc, ◌+◌, ◌*◌, ◌≤◌, ◌<◌}
use native.Mathlib.Omega.{arith}
use Rattle.std.specs.Prelude.{◌≡◌, ◌↔◌, Bool, get_or, length, drop, ℤ}
use Rattle.std.proofs.Math.Path.{refl}
use Rattle.std.proofs.Common.{sym, ap, ◌∙◌, subst, drop-drop}
use mathlib.Core.List.{List, [], ◌∷◌, ◌++◌, map}
use Rattle.std.proofs.Math.Bool.{true, false, cond}
use Rattle.text.specs.Laws.{true_false}
use Rattle.rules.specs.Forms.{Bond}
use Rattle.rules.specs.Record.{NewPair, NoPairTwice}
use Rattle.rules.specs.Canon.{bond_row, bond_of, WritableBond, Rows}
use Rattle.judge_pairs.specs.Taken.{same_pair, pair_taken}
use Rattle.judge_pairs.proofs.Agree.{taken_no}
use Rattle.judge_pairs.specs.Append.{pair_once}
use Rattle.rules.specs.Rows.{row_at, rows_of, rows_length, rows_at}
use Rattle.writer_tables.specs.Tables.{same_ends, same_at, against, walk_from, first_repeat, is_nothing}
use Rattle.writer_row.specs.AgreeNumber.{same_size}
use Rattle.writer_tables.specs.declared.Repeat.{Repeat}
use Rattle.writer_tables.specs.declared.Repeat.TheVariants.{Pair}

-- ---- The bonds of a table

abbrev pub bond_at : List ℤ → ℕ → Bond
bond_at t i = bond_of (bond_row (row_at 6 t i))

-- so many, the first of which is bond i
bonds_from : List ℤ → ℕ → ℕ → List Bond
bonds_from t i zero = []
bonds_from t i (suc count) = bond_at t i ∷ bonds_from t (suc i) count

bonds_more : (t : List ℤ) (i count : ℕ) → bonds_from t i (suc count) ≡ bonds_from t i count ++ (bond_at t (i + count) ∷ [])
unfolding bonds_from
bonds_more t i zero = let e : i + 0 ≡ i = omega arith in rw e
bonds_more t i (suc count) =
    let e : i + suc count ≡ suc i + count = omega arith in
    rw e (ap (λ (bs : List Bond). bond_at t i ∷ bs) (bonds_more t (suc i) count))

bonds_are : (t : List ℤ) (i count : ℕ) → bonds_from t i count ≡ map (λ (r : List ℤ). bond_of (bond_row r)) (rows_of 6 count (drop (6 * i) t))
unfolding bonds_from rows_of
bonds_are t i zero = refl
bonds_are t i (suc count) =
    let e : 6 * i + 6 ≡ 6 * suc i = omega arith in
    rw (drop-drop 6 (6 * i) t, e) (ap (λ (bs : List Bond). bond_at t i ∷ bs) (bonds_are t (suc i) count))

-- ---- Two bonds

each : (width : ℕ) (P : List ℤ → Type 0) (ts : List (List ℤ)) (i : ℕ) → Rows width P ts → i < length ts → P (get_or ts i [])
unfolding Rows
each width P [] i h k = absurd (omega arith)
each width P (t ∷ ts) zero h k = h.0.1
each width P (t ∷ ts) (suc i) h k = each width P ts i h.1 (omega arith)

module _ (n m : ℕ) (t : List ℤ) (good : Rows 6 (λ (r : List ℤ). WritableBond n (bond_row r)) (rows_of 6 m t)) where
  good_at : (i : ℕ) → i < m → WritableBond n (bond_row (row_at 6 t i))
  good_at i h =
      subst (λ (r : List ℤ). WritableBond n (bond_row r)) (rows_at 6 m t i h)
      (each 6 (λ (r : List ℤ). WritableBond n (bond_row r)) (rows_of 6 m t) i good (omega (arith, rows_length 6 m t)))

  same_pair_lem : (i j : ℕ) → i < m → j < m → same_at t i j ≡ same_pair (bond_at t i) (bond_at t j)
  unfolding same_at same_ends bond_of
  same_pair_lem i j h k =
      let b = good_at i h in
      let c = good_at j k in
      rw (
        same_size 1 n _ _ b.first c.first,
        same_size 1 n _ _ b.second c.second,
        same_size 1 n _ _ b.first c.second,
        same_size 1 n _ _ b.second c.first,
      )

  -- ---- The search, and the walk

  against_is : (i : ℕ) (next : Repeat) (j count : ℕ) → i < m → j + count ≤ i →
      is_nothing (against t i j count next) ≡ cond (pair_taken (bond_at t i) (bonds_from t j count)) false (is_nothing next)
  unfolding against bonds_from pair_taken
  against_is i next j zero h k = refl
  against_is i next j (suc count) h k = rw (same_pair_lem i j h (omega arith)) (go (same_pair (bond_at t i) (bond_at t j)) (against_is i next (suc j) count h (omega arith)))
    where
      go : (b : Bool) → is_nothing (against t i (suc j) count next) ≡ cond (pair_taken (bond_at t i) (bonds_from t (suc j) count)) false (is_nothing next) →
          is_nothing (cond b (Pair (suc j) (suc i)) (against t i (suc j) count next)) ≡ cond (cond b true (pair_taken (bond_at t i) (bonds_from t (suc j) count))) false (is_nothing next)
      go true r = refl
      go false r = r

  -- each of so many bonds is new among all before it
  Fresh : ℕ → ℕ → Type 0
  Fresh i zero = Unit {0}
  Fresh i (suc count) = NewPair (bond_at t i) (bonds_from t 0 i) × Fresh (suc i) count

  walk_fresh : (i count : ℕ) → i + count ≤ m → (is_nothing (walk_from t i count) ≡ true) ↔ Fresh i count
  unfolding walk_from Fresh
  walk_fresh i zero h = ((λ _. tt), (λ _. refl))
  walk_fresh i (suc count) h =
      rw (against_is i (walk_from t (suc i) count) 0 i (omega arith) (omega arith))
      (go (pair_taken (bond_at t i) (bonds_from t 0 i)) refl (walk_fresh (suc i) count (omega arith)))
    where
      go : (b : Bool) → pair_taken (bond_at t i) (bonds_from t 0 i) ≡ b → (is_nothing (walk_from t (suc i) count) ≡ true) ↔ Fresh (suc i) count →
          (cond b false (is_nothing (walk_from t (suc i) count)) ≡ true) ↔ NewPair (bond_at t i) (bonds_from t 0 i) × Fresh (suc i) count
      go true e r = ((λ k. true_false (sym k)), (λ k. true_false (sym e ∙ (taken_no (bond_at t i) (bonds_from t 0 i)).1 k.0)))
      go false e r = ((λ k. ((taken_no (bond_at t i) (bonds_from t 0 i)).0 e, r.0 k)), (λ k. r.1 k.1))

  fresh_once : (i count : ℕ) → NoPairTwice (bonds_from t 0 (i + count)) ↔ NoPairTwice (bonds_from t 0 i) × Fresh i count
  unfolding Fresh
  fresh_once i zero = let e : i + 0 ≡ i = omega arith in rw e ((λ h. (h, tt)), (λ h. h.0))
  fresh_once i (suc count) =
      let e : i + suc count ≡ suc i + count = omega arith in
      let r = fresh_once (suc i) count in
      let z : 0 + i ≡ i = omega arith in
      let o : NoPairTwice (bonds_from t 0 (suc i)) ↔ NoPairTwice (bonds_from t 0 i) × NewPair (bond_at t i) (bonds_from t 0 i) = rw (bonds_more t 0 i, z) (pair_once (bonds_from t 0 i) (bond_at t i)) in
      rw e ((λ h. ((o.0 (r.0 h).0).0, ((o.0 (r.0 h).0).1, (r.0 h).1))), (λ h. r.1 (o.1 (h.0, h.1.0), h.1.1)))

  pub pairs_agree : (is_nothing (first_repeat t m) ≡ true) ↔ NoPairTwice (map (λ (r : List ℤ). bond_of (bond_row r)) (rows_of 6 m t))
  unfolding bonds_from NoPairTwice
  pairs_agree =
      let w = walk_fresh 0 m (omega arith) in
      let z : 0 + m ≡ m = omega arith in
      let o = rw z at (fresh_once 0 m) in
      let e : bonds_from t 0 m ≡ map (λ (r : List ℤ). bond_of (bond_row r)) (rows_of 6 m t) = bonds_are t 0 m in
      rw (← e) ((λ h. o.1 (tt, w.0 h)), (λ h. w.1 (o.0 h).1))
