-- How many pairs of bonds the rule against repeated pairs calls for: each bond beside those before it, in order from bond 1, up to the first of the same pair.
use Rattle.std.specs.Prelude.{ℕ, zero, suc, ◌+◌, ◌-◌, ◌*◌, ◌≡◌, refl, cond}
use native.Mathlib.Omega.{arith}
use mathlib.Core.List.{List, [], ◌∷◌, ◌++◌}
use Rattle.text.specs.Text.{Line}
use Rattle.rules.specs.Forms.{Bond, BondLine}
use Rattle.rules.specs.Record.{SamePair}
use Rattle.judge_pairs.specs.Taken.{same_pair, pair_taken}

-- ---- The definition

-- one bond beside these: compared up to and with the first of the same pair
unfoldable pub held_against : Bond → List Bond → ℕ
held_against b [] = 0
held_against b (c ∷ cs) = suc (cond (same_pair b c) 0 (held_against b cs))

-- bonds after these, one after the other, each beside all before it; nothing is compared after a repeat
unfoldable pub compared_in : List Bond → List Bond → ℕ
compared_in before [] = 0
compared_in before (b ∷ bs) = held_against b before + cond (pair_taken b before) 0 (compared_in (before ++ (b ∷ [])) bs)

-- the bonds that have come to the comparison where a line is refused, in a record of n atoms, after these bonds and where a bond line must stand:
-- its own only if the line is good but for its pair
pub data Asked (n : ℕ) (bs : List Bond) (l : Line) : List Bond → Type 0 where
  its_own : {b : Bond} → BondLine n l b → Asked n bs l (bs ++ (b ∷ []))
  not_its_own : ¬ ((b : Bond) × BondLine n l b) → Asked n bs l bs

-- bond j of these is the first that joins the pair of b
pub data FirstSame (b : Bond) : List Bond → ℕ → Type 0 where
  here : {c : Bond} {cs : List Bond} → SamePair b c → FirstSame b (c ∷ cs) 1
  later : {c : Bond} {cs : List Bond} {j : ℕ} → ¬ SamePair b c → FirstSame b cs j → FirstSame b (c ∷ cs) (suc j)

-- ---- Bonds without a repeat

-- all pairs of k bonds: k(k-1)/2
unfoldable pub triangle : ℕ → ℕ
triangle zero = 0
triangle (suc k) = triangle k + k

triangle_next : (k : ℕ) → 2 * triangle (suc k) ≡ suc k * k
unfolding triangle
triangle_next zero = refl
triangle_next (suc k) = omega (arith, triangle_next k)

-- twice that many is k(k-1)
pub triangle_twice : (k : ℕ) → 2 * triangle k ≡ k * (k - 1)
unfolding triangle
triangle_twice zero = refl
triangle_twice (suc k) = let e : suc k - 1 ≡ k = omega arith in rw e (triangle_next k)
