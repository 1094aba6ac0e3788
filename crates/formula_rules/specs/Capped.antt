-- The table's entries are the counts of the formula, multiplied out, each capped at 10,000.
use Rattle.std.specs.Prelude.{ℕ, zero, suc, ◌+◌, ◌≤◌, ◌<◌, ◌≡◌, refl, List, [], ◌∷◌, Bool, true, false, cond, leb, get_or, set}
use Rattle.std.proofs.Common.{arith, sym, le-leb, leb-true, leb-false}
use Rattle.std.proofs.lemmas.Bool.{lt-leb}
use Rattle.formula_rules.specs.Sums.{sat, Below}

-- ---- Capped sums and products

pub sat_small : (n : ℕ) → n ≤ 10000 → n ≡ sat n
unfolding sat
sat_small n h = rw (le-leb n 10000 h)

pub sat_big : (n : ℕ) → 10000 < n → 10000 ≡ sat n
unfolding sat
sat_big n h = rw (lt-leb n 10000 h)

pub sat_le : (n : ℕ) → sat n ≤ 10000
unfolding sat
sat_le n = go (leb n 10000) refl
  where
    go : (t : Bool) → leb n 10000 ≡ t → cond t n 10000 ≤ 10000
    go true e = leb-true n 10000 e
    go false e = omega arith

pub split_at : (x : ℕ) → {A : Type 0} → (x ≤ 10000 → A) → (10000 < x → A) → A
split_at x {A} f g = go (leb x 10000) refl
  where
    go : (t : Bool) → leb x 10000 ≡ t → A
    go true e = f (leb-true x 10000 e)
    go false e = g (leb-false x 10000 e)

pub capped_small : (n : ℕ) → sat n ≤ 9999 → sat n ≡ n
capped_small n h = split_at n (λ l. sym (sat_small n l)) (λ l. absurd (omega (arith, sat_big n l)))

-- ---- The table stays capped and keeps its length

pub below_set : (t : List ℕ) (i v : ℕ) → Below t → v ≤ 10000 → Below (set t i v)
unfolding Below
below_set [] i v h l j = omega arith
below_set (x ∷ t) zero v h l zero = l
below_set (x ∷ t) zero v h l (suc j) = h (suc j)
below_set (x ∷ t) (suc i) v h l zero = h 0
below_set (x ∷ t) (suc i) v h l (suc j) = below_set t i v (λ k. h (suc k)) l j

pub below_at : (t u : List ℕ) (i n : ℕ) → Below t → u ≡ set t i (sat (get_or t i 0 + n)) → Below u
below_at t u i n h q = rw q (below_set t i _ h (sat_le (get_or t i 0 + n)))

pub below_here : (t : List ℕ) (i : ℕ) → Below t → get_or t i 0 ≤ 10000
unfolding Below
below_here t i h = h i
