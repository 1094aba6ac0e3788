-- Heads and sizes, computed from the labels.
use Prim.Native.Nat.{ℕ, zero, suc, ◌+◌, ◌-◌, ◌≤◌, ◌<◌}
use native.Mathlib.Omega.{arith}
use Rattle.std.proofs.Common.{add-one, sym, ap, ◌∙◌}
use Rattle.std.specs.Prelude.{◌≡◌, List, [], ◌∷◌, map, Bool, cond, length, get_or}
use Rattle.std.proofs.Math.Path.{refl, subst}
use Rattle.std.proofs.Math.Bool.{true, false}
use Rattle.std.proofs.Math.Dec.{eqb}
use borrow.Author.Tests.{eq-eqb, ne_eqb, eqb-true, eqb-false}
use Rattle.rules.specs.Forms.{Bond}
use Rattle.sets_words.specs.HowMany.{how_many, many_hit, many_miss}
use Rattle.piece_rules.specs.Pieces.{Lowest, Number, none, one, other, PiecesAbove, done, piece, inside, sum}
use Rattle.piece_rules.specs.Chains.{one_lowest}

-- the atom after i has this label
abbrev pub labelled : List ℕ → ℕ → ℕ → Bool
labelled ls h i = eqb (get_or ls i 0) h

-- how many of the first n atoms have the label h
abbrev pub size_in : List ℕ → ℕ → ℕ → ℕ
size_in ls n h = how_many (labelled ls h) n

-- no label is above its own atom
unfoldable pub Below : ℕ → List ℕ → Type 0
Below n ls = (i : ℕ) → i < n → get_or ls i 0 ≤ i + 1

-- of the k atoms after i those that are their own label
unfoldable pub heads_from : List ℕ → ℕ → ℕ → List ℕ
heads_from ls i zero = []
heads_from ls i (suc k) = cond (labelled ls (suc i) i) (suc i ∷ heads_from ls (suc i) k) (heads_from ls (suc i) k)

pub heads_hit : (ls : List ℕ) (i k : ℕ) → get_or ls i 0 ≡ suc i → heads_from ls i (suc k) ≡ suc i ∷ heads_from ls (suc i) k
unfolding heads_from
heads_hit ls i k e = rw (eq-eqb (get_or ls i 0) (suc i) e)

pub heads_miss : (ls : List ℕ) (i k : ℕ) → (get_or ls i 0 ≡ suc i → ⊥) → heads_from ls i (suc k) ≡ heads_from ls (suc i) k
unfolding heads_from
heads_miss ls i k n = rw (ne_eqb (get_or ls i 0) (suc i) n)

pub heads_few : (ls : List ℕ) (i k : ℕ) → length (heads_from ls i k) ≤ k
unfolding heads_from
heads_few ls i zero = omega arith
heads_few ls i (suc k) = go (eqb (get_or ls i 0) (suc i)) refl (heads_few ls (suc i) k)
  where
    go : (t : Bool) → eqb (get_or ls i 0) (suc i) ≡ t → length (heads_from ls (suc i) k) ≤ k → length (heads_from ls i (suc k)) ≤ suc k
    go true e h = omega (arith, ap length (heads_hit ls i k (eqb-true (get_or ls i 0) (suc i) e)))
    go false e h = omega (arith, ap length (heads_miss ls i k (eqb-false (get_or ls i 0) (suc i) e)))

-- ---- They are the pieces

module _ (n : ℕ) (bs : List Bond) (ls : List ℕ) (low : (i : ℕ) → i < n → Lowest bs (i + 1) (get_or ls i 0)) where
  at_suc : (i : ℕ) → i < n → Lowest bs (suc i) (get_or ls i 0)
  at_suc i h = subst (λ (a : ℕ). Lowest bs a (get_or ls i 0)) (add-one i) (low i h)

  is_lowest : (i l : ℕ) → i < n → get_or ls i 0 ≡ l → Lowest bs (suc i) l
  is_lowest i l h e = subst (Lowest bs (suc i)) e (at_suc i h)

  not_lowest : (i l : ℕ) → i < n → (get_or ls i 0 ≡ l → ⊥) → Lowest bs (suc i) l → ⊥
  not_lowest i l h n q = n (one_lowest (at_suc i h) q)

  sizes_are : (h m : ℕ) → m ≤ n → Number (λ a. Lowest bs a h) m (how_many (labelled ls h) m)
  unfolding how_many
  sizes_are h zero l = none
  sizes_are h (suc m) l = go (eqb (get_or ls m 0) h) refl (sizes_are h m (omega arith))
    where
      go : (t : Bool) → eqb (get_or ls m 0) h ≡ t → Number (λ a. Lowest bs a h) m (how_many (labelled ls h) m) →
          Number (λ a. Lowest bs a h) (suc m) (how_many (labelled ls h) (suc m))
      go true e r =
          subst (Number (λ a. Lowest bs a h) (suc m)) (sym (many_hit (labelled ls h) m e)) (one (is_lowest m h (omega arith) (eqb-true (get_or ls m 0) h e)) r)
      go false e r =
          subst (Number (λ a. Lowest bs a h) (suc m)) (sym (many_miss (labelled ls h) m e)) (other (not_lowest m h (omega arith) (eqb-false (get_or ls m 0) h e)) r)

  abbrev Above : ℕ → List ℕ → Type 0
  Above i hs = PiecesAbove bs n i hs (map (size_in ls n) hs)

  pub heads_are : (i k : ℕ) → i + k ≡ n → Above i (heads_from ls i k)
  unfolding heads_from
  heads_are i zero e = let f : i ≡ n = omega arith in done f
  heads_are i (suc k) e = go (eqb (get_or ls i 0) (suc i)) refl (heads_are (suc i) k (omega arith))
    where
      go : (t : Bool) → eqb (get_or ls i 0) (suc i) ≡ t → Above (suc i) (heads_from ls (suc i) k) → Above i (heads_from ls i (suc k))
      go true q r =
          let f = eqb-true (get_or ls i 0) (suc i) q in
          subst (Above i) (sym (heads_hit ls i k f)) (piece (is_lowest i (suc i) (omega arith) f) (sizes_are (suc i) n (omega arith)) r)
      go false q r =
          let f = eqb-false (get_or ls i 0) (suc i) q in
          subst (Above i) (sym (heads_miss ls i k f)) (inside (not_lowest i (suc i) (omega arith) f) r)

-- ---- The sizes sum to n

-- how often h is in the list
unfoldable pub times_in : ℕ → List ℕ → ℕ
times_in h [] = 0
times_in h (x ∷ xs) = cond (eqb h x) (suc (times_in h xs)) (times_in h xs)

times_hit : (h x : ℕ) (xs : List ℕ) → h ≡ x → times_in h (x ∷ xs) ≡ suc (times_in h xs)
unfolding times_in
times_hit h x xs e = rw (eq-eqb h x e)

times_miss : (h x : ℕ) (xs : List ℕ) → (h ≡ x → ⊥) → times_in h (x ∷ xs) ≡ times_in h xs
unfolding times_in
times_miss h x xs n = rw (ne_eqb h x n)

-- one atom more adds one for every time its label is listed
sum_more : (ls : List ℕ) (m : ℕ) (hs : List ℕ) → sum (map (size_in ls (suc m)) hs) ≡ times_in (get_or ls m 0) hs + sum (map (size_in ls m) hs)
unfolding sum times_in
sum_more ls m [] = refl
sum_more ls m (h ∷ hs) = go (eqb (get_or ls m 0) h) refl (sum_more ls m hs)
  where
    go : (t : Bool) → eqb (get_or ls m 0) h ≡ t → sum (map (size_in ls (suc m)) hs) ≡ times_in (get_or ls m 0) hs + sum (map (size_in ls m) hs) →
        size_in ls (suc m) h + sum (map (size_in ls (suc m)) hs) ≡ times_in (get_or ls m 0) (h ∷ hs) + (size_in ls m h + sum (map (size_in ls m) hs))
    go true e r = omega (arith, many_hit (labelled ls h) m e, times_hit (get_or ls m 0) h hs (eqb-true (get_or ls m 0) h e))
    go false e r = omega (arith, many_miss (labelled ls h) m e, times_miss (get_or ls m 0) h hs (eqb-false (get_or ls m 0) h e))

sum_none : (ls : List ℕ) (hs : List ℕ) → sum (map (size_in ls 0) hs) ≡ 0
unfolding sum how_many
sum_none ls [] = refl
sum_none ls (h ∷ hs) = omega (arith, sum_none ls hs)

-- a head is listed once, and nothing else
heads_low : (ls : List ℕ) (l i k : ℕ) → l ≤ i → times_in l (heads_from ls i k) ≡ 0
unfolding heads_from times_in
heads_low ls l i zero h = refl
heads_low ls l i (suc k) h = go (eqb (get_or ls i 0) (suc i)) refl (heads_low ls l (suc i) k (omega arith))
  where
    go : (t : Bool) → eqb (get_or ls i 0) (suc i) ≡ t → times_in l (heads_from ls (suc i) k) ≡ 0 → times_in l (heads_from ls i (suc k)) ≡ 0
    go true e r =
        ap (times_in l) (heads_hit ls i k (eqb-true (get_or ls i 0) (suc i) e)) ∙ times_miss l (suc i) (heads_from ls (suc i) k) (λ q. omega arith) ∙ r
    go false e r = ap (times_in l) (heads_miss ls i k (eqb-false (get_or ls i 0) (suc i) e)) ∙ r

head_once : (ls : List ℕ) (j i k : ℕ) → i ≤ j → j < i + k → get_or ls j 0 ≡ suc j → times_in (suc j) (heads_from ls i k) ≡ 1
unfolding heads_from times_in
head_once ls j i zero l h e = absurd (omega arith)
head_once ls j i (suc k) l h e = go (eqb i j) refl (λ q. head_once ls j (suc i) k (omega arith) (omega arith) e)
  where
    miss : (eqb i j ≡ false) → (t : Bool) → eqb (get_or ls i 0) (suc i) ≡ t → times_in (suc j) (heads_from ls (suc i) k) ≡ 1 → times_in (suc j) (heads_from ls i (suc k)) ≡ 1
    miss d true q r =
        let n = eqb-false i j d in
        ap (times_in (suc j)) (heads_hit ls i k (eqb-true (get_or ls i 0) (suc i) q)) ∙ times_miss (suc j) (suc i) (heads_from ls (suc i) k) (λ z. omega arith) ∙ r
    miss d false q r = ap (times_in (suc j)) (heads_miss ls i k (eqb-false (get_or ls i 0) (suc i) q)) ∙ r

    go : (t : Bool) → eqb i j ≡ t → (i < j → times_in (suc j) (heads_from ls (suc i) k) ≡ 1) → times_in (suc j) (heads_from ls i (suc k)) ≡ 1
    go true d r =
        let s = eqb-true i j d in
        let f : get_or ls i 0 ≡ suc i = rw s e in
        ap (times_in (suc j)) (heads_hit ls i k f) ∙ times_hit (suc j) (suc i) (heads_from ls (suc i) k) (omega arith)
        ∙ ap suc (heads_low ls (suc j) (suc i) k (omega arith))
    go false d r = let n = eqb-false i j d in miss d (eqb (get_or ls i 0) (suc i)) refl (r (omega arith))

module _ (n : ℕ) (ls : List ℕ) (heads : (i : ℕ) → i < n → (1 ≤ get_or ls i 0) × (get_or ls i 0 ≤ n) × (get_or ls (get_or ls i 0 - 1) 0 ≡ get_or ls i 0)) where
  label_once : (m : ℕ) → m < n → times_in (get_or ls m 0) (heads_from ls 0 n) ≡ 1
  label_once m h =
      let f = heads m h in
      let e : suc (get_or ls m 0 - 1) ≡ get_or ls m 0 = omega (arith, f.0) in
      subst (λ (x : ℕ). times_in x (heads_from ls 0 n) ≡ 1) e
      (head_once ls (get_or ls m 0 - 1) 0 n (omega arith) (omega (arith, f.0, f.1)) (f.2 ∙ sym e))

  sum_below : (m : ℕ) → m ≤ n → sum (map (size_in ls m) (heads_from ls 0 n)) ≡ m
  sum_below zero h = sum_none ls (heads_from ls 0 n)
  sum_below (suc m) h = sum_more ls m (heads_from ls 0 n) ∙ omega (arith, label_once m (omega arith), sum_below m (omega arith))

  pub sizes_sum : sum (map (size_in ls n) (heads_from ls 0 n)) ≡ n
  sizes_sum = sum_below n (omega arith)
