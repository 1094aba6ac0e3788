-- One record more at the end of a list.
use Rattle.std.specs.Prelude.{ℕ, ◌+◌, ◌≤◌, ◌≡◌, refl, List, [], ◌∷◌, ◌++◌, Bool, true, false, cond, length}
use Rattle.std.proofs.Common.{arith, ap, ◌∙◌, append-nil, length-append}
use Rattle.store_log.specs.Store.{Store}
use Rattle.store_log.specs.Entries.{OneEach}
use Rattle.stock_rules.specs.Join.{Entry, picked, first_place, never_in, keyless_in}
use Rattle.stock_rules.specs.EachOnce.{any_record, under, all_picked, each_once}

pub picked_more : (f : Entry → Bool) (es : List Entry) (e : Entry) → picked f (es ++ (e ∷ [])) ≡ picked f es ++ cond (f e) (e ∷ []) []
unfolding picked
picked_more f [] e = go (f e)
  where
    go : (b : Bool) → cond b (e ∷ []) [] ≡ cond b (e ∷ []) []
    go b = refl
picked_more f (d ∷ es) e = go (f d) (picked_more f es e)
  where
    go : (b : Bool) → picked f (es ++ (e ∷ [])) ≡ picked f es ++ cond (f e) (e ∷ []) [] →
        cond b (d ∷ picked f (es ++ (e ∷ []))) (picked f (es ++ (e ∷ []))) ≡ cond b (d ∷ picked f es) (picked f es) ++ cond (f e) (e ∷ []) []
    go true h = ap (λ (x : List Entry). d ∷ x) h
    go false h = h

module _ (f : Entry → Bool) (es : List Entry) (e : Entry) where
  pub picked_one : f e ≡ true → picked f (es ++ (e ∷ [])) ≡ picked f es ++ (e ∷ [])
  picked_one h = picked_more f es e ∙ rw h

  pub picked_same : f e ≡ false → picked f (es ++ (e ∷ [])) ≡ picked f es
  picked_same h = picked_more f es e ∙ rw h (append-nil (picked f es))

  pub length_one : f e ≡ true → length (picked f (es ++ (e ∷ []))) ≡ length (picked f es) + 1
  length_one h = ap length (picked_one h) ∙ length-append (picked f es) (e ∷ [])

  pub length_same : f e ≡ false → length (picked f (es ++ (e ∷ []))) ≡ length (picked f es)
  length_same h = ap length (picked_same h)

pub picked_less : (f : Entry → Bool) (es : List Entry) → length (picked f es) ≤ length es
unfolding picked
picked_less f [] = omega arith
picked_less f (e ∷ es) = go (f e) (picked_less f es)
  where
    go : (b : Bool) → length (picked f es) ≤ length es → length (cond b (e ∷ picked f es) (picked f es)) ≤ length (e ∷ es)
    go true h = omega arith
    go false h = omega arith

pub first_new : (rs : List Entry) (e : Entry) → length rs ≡ 0 → first_place (rs ++ (e ∷ [])) ≡ e.place
first_new [] e h = refl
first_new (r ∷ rs) e h = absurd (omega arith)

pub first_kept : (rs : List Entry) (e : Entry) → (length rs ≡ 0 → ⊥) → first_place (rs ++ (e ∷ [])) ≡ first_place rs
first_kept [] e h = absurd (h refl)
first_kept (r ∷ rs) e h = refl

-- the three numbers make the number of records
pub total : (ls : Store) → OneEach ls → (es : List Entry) → under any_record ls es + length (never_in ls es) + length (keyless_in es) ≡ length es
total ls g es =
    let e = each_once any_record ls g es in
    let a = ap length (all_picked (never_in ls es)) in
    let b = ap length (all_picked (keyless_in es)) in
    let c = ap length (all_picked es) in
    omega (arith, a, b, c, e)

pub total_more : (ls : Store) → OneEach ls → (es : List Entry) (e : Entry) (n k : ℕ) → length (never_in ls (es ++ (e ∷ []))) ≡ length (never_in ls es) + n →
    length (keyless_in (es ++ (e ∷ []))) ≡ length (keyless_in es) + k → under any_record ls (es ++ (e ∷ [])) + n + k ≡ under any_record ls es + 1
total_more ls g es e n k hn hk =
    let a = total ls g es in
    let b = total ls g (es ++ (e ∷ [])) in
    let l = length-append es (e ∷ []) in
    omega (arith, a, b, l, hn, hk)
