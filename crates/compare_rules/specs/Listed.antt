-- What a lent list holds in the end: all differences, one row after the other, where there is room for all; and how many there are, up to 2 ^ 60.
use Rattle.std.specs.Prelude.{ℕ, zero, suc, ◌+◌, ◌*◌, ◌/◌, ◌^◌, ◌<◌, ◌≤◌, ◌≡◌, refl, ◌↔◌, List, [], ◌∷◌, ◌++◌, Bool, true, false, ltb, length, set, drop, ℤ}
use Rattle.std.proofs.Common.{arith, sym, ap, ap₂, ◌∙◌, lt-ltb, ltb-true, ltb-false}
use Rattle.std.proofs.lemmas.List.Edits.{sets}
use Rattle.std.proofs.Math.Seq.{length-sets}
use Rattle.compare_rules.specs.Differences.{Difference, row}
use Rattle.compare_rules.specs.Log.{log, seen, up, put_at, noted}
use Rattle.compare_rules.specs.Noted.{up_more, up_most}

-- the rows of a list, one after the other
unfoldable pub flat : List Difference → List ℤ
flat [] = []
flat (d ∷ ds) = row d ++ flat ds

-- ---- The count

pub count_exact : (l : List ℤ) (k : ℕ) (ds : List Difference) → k + length ds ≤ 2 ^ 60 → (noted (log l (seen k)) ds).count.seen ≡ k + length ds
unfolding noted
count_exact l k [] h = omega arith
count_exact l k (d ∷ ds) h =
    ap (λ (j : ℕ). (noted (log (put_at l k (row d)) (seen j)) ds).count.seen) (sym (up_more k (omega arith)))
    ∙ count_exact (put_at l k (row d)) (k + 1) ds (omega arith)
    ∙ omega arith

count_stays : (l : List ℤ) (k : ℕ) (ds : List Difference) → k ≡ 2 ^ 60 → (noted (log l (seen k)) ds).count.seen ≡ 2 ^ 60
unfolding noted
count_stays l k [] h = h
count_stays l k (d ∷ ds) h =
    ap (λ (j : ℕ). (noted (log (put_at l k (row d)) (seen j)) ds).count.seen) (sym (up_most k (omega arith))) ∙ count_stays (put_at l k (row d)) k ds h

pub count_most : (l : List ℤ) (k : ℕ) (ds : List Difference) → k < 2 ^ 60 → 2 ^ 60 ≤ k + length ds → (noted (log l (seen k)) ds).count.seen ≡ 2 ^ 60
unfolding noted
count_most l k [] h f = absurd (omega arith)
count_most l k (d ∷ ds) h f =
    ap (λ (j : ℕ). (noted (log (put_at l k (row d)) (seen j)) ds).count.seen) (sym (up_more k h))
    ∙ go (ltb (k + 1) (2 ^ 60)) refl (λ g. count_most (put_at l k (row d)) (k + 1) ds g (omega arith))
  where
    go : (t : Bool) → ltb (k + 1) (2 ^ 60) ≡ t → (k + 1 < 2 ^ 60 → (noted (log (put_at l k (row d)) (seen (k + 1))) ds).count.seen ≡ 2 ^ 60) → (noted (log (put_at l k (row d)) (seen (k + 1))) ds).count.seen ≡ 2 ^ 60
    go true e r = r (ltb-true (k + 1) (2 ^ 60) e)
    go false e r = count_stays (put_at l k (row d)) (k + 1) ds (omega (arith, ltb-false (k + 1) (2 ^ 60) e))

-- ---- The list

sets_joined : (l : List ℤ) (i : ℕ) (t u : List ℤ) → sets l i (t ++ u) ≡ sets (sets l i t) (i + length t) u
sets_joined l i [] u = let e : i + 0 ≡ i = omega arith in rw e
sets_joined l i (x ∷ t) u = let e : i + suc (length t) ≡ suc i + length t = omega arith in rw e (sets_joined (set l i x) (suc i) t u)

-- room for all of them
pub stored_exact : (l : List ℤ) (k : ℕ) (ds : List Difference) → 7 * (k + length ds) ≤ length l → length l < 2 ^ 60 →
    noted (log l (seen k)) ds ≡ log (sets l (7 * k) (flat ds)) (seen (k + length ds))
unfolding noted flat put_at
stored_exact l k [] h f = let e : k + 0 ≡ k = omega arith in rw e
stored_exact l k (d ∷ ds) h f =
    let r : k < length l / 7 = omega arith in
    let u : up k ≡ k + 1 = sym (up_more k (omega arith)) in
    let n : k + 1 + length ds ≡ k + suc (length ds) = omega arith in
    let m : 7 * (k + 1) ≡ 7 * k + 7 = omega arith in
    rw (lt-ltb k (length l / 7) r, u)
    (stored_exact (sets l (7 * k) (row d)) (k + 1) ds (omega (arith, length-sets l (7 * k) (row d))) (omega (arith, length-sets l (7 * k) (row d)))
    ∙ ap₂ (λ (t : List ℤ) (j : ℕ). log t (seen j)) (ap (λ (j : ℕ). sets (sets l (7 * k) (row d)) j (flat ds)) m ∙ sym (sets_joined l (7 * k) (row d) (flat ds))) n)

-- those passed over are not looked at
pub passed_over : (l : List ℤ) (s k : ℕ) (ds : List Difference) → s ≤ length ds → noted (log l (record { skip = s; seen = k })) ds ≡ noted (log l (seen k)) (drop s ds)
unfolding noted
passed_over l zero k ds h = refl
passed_over l (suc s) k [] h = absurd (omega arith)
passed_over l (suc s) k (d ∷ ds) h = passed_over l s k ds (omega arith)

-- ---- Enough room is told by the count

-- whatever list m was lent while they were counted
pub room_told : (m l : List ℤ) (ds : List Difference) → length l < 2 ^ 60 → (7 * (noted (log m (seen 0)) ds).count.seen ≤ length l) ↔ (7 * length ds ≤ length l)
room_told m l ds f = go (ltb (2 ^ 60) (length ds)) refl
  where
    go : (t : Bool) → ltb (2 ^ 60) (length ds) ≡ t → (7 * (noted (log m (seen 0)) ds).count.seen ≤ length l) ↔ (7 * length ds ≤ length l)
    go true e =
        let a = ltb-true (2 ^ 60) (length ds) e in
        let c = count_most m 0 ds (omega arith) (omega arith) in
        (λ h. absurd (omega arith), λ h. absurd (omega arith))
    go false e =
        let a = ltb-false (2 ^ 60) (length ds) e in
        let c = count_exact m 0 ds (omega arith) in
        (λ h. omega arith, λ h. omega arith)
