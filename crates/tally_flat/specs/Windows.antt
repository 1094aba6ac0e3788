-- Numbers moved up and a name put down, place by place; and windows of a list.
use Rattle.std.specs.Prelude.{ℕ, zero, suc, ◌+◌, ◌-◌, ◌≤◌, ◌<◌, ◌≡◌, refl, List, [], ◌∷◌, ◌++◌, Bool, true, false, ltb, length, get_or, set, take, drop, replicate}
use Rattle.std.proofs.Common.{arith, sym, ap, ◌∙◌, length-set, length-drop, length-append, get_or-set_same, get_or-set_other, get_or-take, get_or-drop, length-take-le, ext_get_or, ltb-true, ltb-false}
use Rattle.std.proofs.lemmas.List.{length-replicate}
use Rattle.text.specs.Text.{Bytes}
use Rattle.tally_flat.specs.Flat.{shifted, put_from}

-- ---- Moved up

pub shifted_length : (w k from : ℕ) (xs : List ℕ) → length (shifted w k from xs) ≡ length xs
unfolding shifted
shifted_length w zero from xs = refl
shifted_length w (suc k) from xs = shifted_length w k from (set xs (from + k + w) (get_or xs (from + k) 0)) ∙ length-set xs (from + k + w) (get_or xs (from + k) 0)

-- before the place that is made, and in it, and past what moved
pub shifted_low : (w k from : ℕ) (xs : List ℕ) (j : ℕ) → j < from + w → get_or (shifted w k from xs) j 0 ≡ get_or xs j 0
unfolding shifted
shifted_low w zero from xs j h = refl
shifted_low w (suc k) from xs j h =
    shifted_low w k from (set xs (from + k + w) (get_or xs (from + k) 0)) j h
    ∙ get_or-set_other xs (from + k + w) j (get_or xs (from + k) 0) 0 (λ e. omega (arith, h, e))

pub shifted_high : (w k from : ℕ) (xs : List ℕ) (j : ℕ) → from + w + k ≤ j → get_or (shifted w k from xs) j 0 ≡ get_or xs j 0
unfolding shifted
shifted_high w zero from xs j h = refl
shifted_high w (suc k) from xs j h =
    shifted_high w k from (set xs (from + k + w) (get_or xs (from + k) 0)) j (omega arith)
    ∙ get_or-set_other xs (from + k + w) j (get_or xs (from + k) 0) 0 (λ e. omega (arith, h, e))

-- what moved
pub shifted_up : (w k from : ℕ) (xs : List ℕ) → from + w + k ≤ length xs → 0 < w → (i : ℕ) → i < k → get_or (shifted w k from xs) (from + w + i) 0 ≡ get_or xs (from + i) 0
unfolding shifted
shifted_up w zero from xs h some i l = absurd (omega arith)
shifted_up w (suc k) from xs h some i l =
    go (ltb i k) refl (λ m. shifted_up w k from (set xs (from + k + w) (get_or xs (from + k) 0)) (omega (arith, h, length-set xs (from + k + w) (get_or xs (from + k) 0))) some i m)
  where
    go : (t : Bool) → ltb i k ≡ t → (i < k → get_or (shifted w k from (set xs (from + k + w) (get_or xs (from + k) 0))) (from + w + i) 0 ≡ get_or (set xs (from + k + w) (get_or xs (from + k) 0)) (from + i) 0) →
        get_or (shifted w k from (set xs (from + k + w) (get_or xs (from + k) 0))) (from + w + i) 0 ≡ get_or xs (from + i) 0
    go true e again =
        let m = ltb-true i k e in
        again m ∙ get_or-set_other xs (from + k + w) (from + i) (get_or xs (from + k) 0) 0 (λ q. omega (arith, q, m, some))
    go false e again =
        let m = ltb-false i k e in
        let z : i ≡ k = omega arith in
        let q : from + w + i ≡ from + k + w = omega (arith, z) in
        shifted_high w k from (set xs (from + k + w) (get_or xs (from + k) 0)) (from + w + i) (omega (arith, z))
        ∙ ap (λ (j : ℕ). get_or (set xs (from + k + w) (get_or xs (from + k) 0)) j 0) q
        ∙ get_or-set_same xs (from + k + w) (get_or xs (from + k) 0) 0 (omega (arith, h))
        ∙ ap (λ (j : ℕ). get_or xs (from + j) 0) (sym z)

-- ---- Put down

pub put_length : (k at j : ℕ) (n : Bytes) (xs : List ℕ) → length (put_from k at j n xs) ≡ length xs
unfolding put_from
put_length zero at j n xs = refl
put_length (suc k) at j n xs = put_length k at (j + 1) n (set xs (at + j) (get_or n j 0)) ∙ length-set xs (at + j) (get_or n j 0)

pub put_before : (k at j : ℕ) (n : Bytes) (xs : List ℕ) (i : ℕ) → i < at + j → get_or (put_from k at j n xs) i 0 ≡ get_or xs i 0
unfolding put_from
put_before zero at j n xs i h = refl
put_before (suc k) at j n xs i h =
    put_before k at (j + 1) n (set xs (at + j) (get_or n j 0)) i (omega arith) ∙ get_or-set_other xs (at + j) i (get_or n j 0) 0 (λ e. omega (arith, e, h))

pub put_after : (k at j : ℕ) (n : Bytes) (xs : List ℕ) (i : ℕ) → at + j + k ≤ i → get_or (put_from k at j n xs) i 0 ≡ get_or xs i 0
unfolding put_from
put_after zero at j n xs i h = refl
put_after (suc k) at j n xs i h =
    put_after k at (j + 1) n (set xs (at + j) (get_or n j 0)) i (omega arith) ∙ get_or-set_other xs (at + j) i (get_or n j 0) 0 (λ e. omega (arith, e, h))

pub put_there : (k at j : ℕ) (n : Bytes) (xs : List ℕ) → at + j + k ≤ length xs → (i : ℕ) → j ≤ i → i < j + k → get_or (put_from k at j n xs) (at + i) 0 ≡ get_or n i 0
unfolding put_from
put_there zero at j n xs h i l m = absurd (omega arith)
put_there (suc k) at j n xs h i l m =
    go (ltb j i) refl (λ u. put_there k at (j + 1) n (set xs (at + j) (get_or n j 0)) (omega (arith, h, length-set xs (at + j) (get_or n j 0))) i (omega arith) (omega arith))
  where
    go : (t : Bool) → ltb j i ≡ t → (j < i → get_or (put_from k at (j + 1) n (set xs (at + j) (get_or n j 0))) (at + i) 0 ≡ get_or n i 0) →
        get_or (put_from k at (j + 1) n (set xs (at + j) (get_or n j 0))) (at + i) 0 ≡ get_or n i 0
    go true e again = again (ltb-true j i e)
    go false e again =
        let u = ltb-false j i e in
        let z : i ≡ j = omega arith in
        put_before k at (j + 1) n (set xs (at + j) (get_or n j 0)) (at + i) (omega (arith, z))
        ∙ ap (λ (q : ℕ). get_or (set xs (at + j) (get_or n j 0)) (at + q) 0) z
        ∙ get_or-set_same xs (at + j) (get_or n j 0) 0 (omega (arith, h))
        ∙ ap (λ (q : ℕ). get_or n q 0) (sym z)

-- ---- Windows

window_length : (xs : List ℕ) (a w : ℕ) → a + w ≤ length xs → length (take w (drop a xs)) ≡ w
window_length xs a w h = length-take-le w (drop a xs) (omega (arith, h, length-drop a xs))

window_at : (xs : List ℕ) (a w i : ℕ) → i < w → get_or (take w (drop a xs)) i 0 ≡ get_or xs (a + i) 0
window_at xs a w i h = get_or-take w (drop a xs) i 0 h ∙ get_or-drop a xs i 0

pub window_same : (xs ys : List ℕ) (a b w : ℕ) → a + w ≤ length xs → b + w ≤ length ys → ((i : ℕ) → i < w → get_or xs (a + i) 0 ≡ get_or ys (b + i) 0) →
    take w (drop a xs) ≡ take w (drop b ys)
window_same xs ys a b w h k f =
    ext_get_or 0 (take w (drop a xs)) (take w (drop b ys)) (window_length xs a w h ∙ sym (window_length ys b w k))
    (λ i l.
    let m : i < w = omega (arith, l, window_length xs a w h) in
    window_at xs a w i m ∙ f i m ∙ sym (window_at ys b w i m))

-- zeros behind a list are what is read past its end
pub padded_at : (n : Bytes) (k i : ℕ) → get_or (n ++ replicate k 0) i 0 ≡ get_or n i 0
padded_at [] zero i = refl
padded_at [] (suc k) zero = refl
padded_at [] (suc k) (suc i) = padded_at [] k i ∙ refl
padded_at (b ∷ n) k zero = refl
padded_at (b ∷ n) k (suc i) = padded_at n k i

pub window_padded : (xs : List ℕ) (a w : ℕ) (n : Bytes) → a + w ≤ length xs → length n ≤ w → ((i : ℕ) → i < w → get_or xs (a + i) 0 ≡ get_or n i 0) →
    take w (drop a xs) ≡ n ++ replicate (w - length n) 0
window_padded xs a w n h k f =
    let size : length (n ++ replicate (w - length n) 0) ≡ w = omega (arith, length-append n (replicate (w - length n) 0), length-replicate {A = ℕ} (w - length n) 0, k) in
    ext_get_or 0 (take w (drop a xs)) (n ++ replicate (w - length n) 0) (window_length xs a w h ∙ sym size)
    (λ i l.
    let m : i < w = omega (arith, l, window_length xs a w h) in
    window_at xs a w i m ∙ f i m ∙ sym (padded_at n (w - length n) i))
