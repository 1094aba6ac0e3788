-- The list of differences, written element by element.
use Prim.Native.Nat.{ℕ, suc, ◌+◌, ◌*◌, ◌-◌, ◌≤◌, ◌<◌}
use native.Mathlib.Omega.{arith}
use Rattle.std.specs.Prelude.{◌≡◌, refl, List, [], ◌∷◌, Bool, cond, eqb, get_or}
use Rattle.std.proofs.Math.Path.{sym, ap}
use Rattle.std.proofs.Common.{◌∙◌}
use Rattle.std.proofs.Math.Bool.{true, false}
use Rattle.std.proofs.Math.ListN.{length, set}
use Rattle.std.proofs.Math.Seq.{sets}
use borrow.Author.Tests.{eq-eqb, ne_eqb}
use Rattle.formula_rules.specs.Verdict.{Difference, differing, differences, numbers}

abbrev pub entry : List ℕ → ℕ → ℕ
entry t k = get_or t k 0

-- what element k adds to the list
unfoldable pub one : ℕ → ℕ → ℕ → List Difference
one k w d = cond (eqb w d) [] (record { element = k; written = w; drawn = d } ∷ [])

pub stored : (t : List ℕ) (at k w d : ℕ) → set (set (set t at k) (at + 1) w) (at + 2) d ≡ sets t at (k ∷ w ∷ d ∷ [])
stored t at k w d =
    let p : at + 1 ≡ suc at = omega arith in
    let q : at + 2 ≡ suc (suc at) = omega arith in
    rw (p, q)

module _ (t : List ℕ) (c k w d : ℕ) where
  pub one_same : w ≡ d → (c ≡ c + length (one k w d)) × (t ≡ sets t (3 * c) (numbers (one k w d)))
  unfolding one numbers
  one_same h = let e = eq-eqb w d h in (rw e (omega arith), rw e)

  pub one_differs : (w ≡ d → ⊥) → (j : ℕ) → j ≡ k → (u : List ℕ) → u ≡ sets t (3 * c) (j ∷ w ∷ d ∷ []) → (c + 1 ≡ c + length (one k w d)) × (u ≡ sets t (3 * c) (numbers (one k w d)))
  unfolding one numbers
  one_differs h j ej u eu = let e = ne_eqb w d h in (rw e, rw e (eu ∙ ap (λ (i : ℕ). sets t (3 * c) (i ∷ w ∷ d ∷ [])) ej))

pub record Listing (w d : ℕ → ℕ) (f₀ f : List ℕ) (c k : ℕ) : Type 0 where
  pub few : c + 2 ≤ k
  pub high : k ≤ 119
  pub count : length (differences w d) ≡ c + length (differing w d k (119 - k))
  pub same : sets f₀ 0 (numbers (differences w d)) ≡ sets f (3 * c) (numbers (differing w d k (119 - k)))

module _ (w d : ℕ → ℕ) (f₀ : List ℕ) where
  pub listing_start : Listing w d f₀ f₀ 0 2
  listing_start = record { few = omega arith; high = omega arith; count = omega arith; same = refl }

  module _ (f : List ℕ) (c k : ℕ) (h : Listing w d f₀ f c k) where
    pub listing_room : k < 119 → 3 * c + 3 ≤ 354
    listing_room l = omega (arith, h.few)

    by : (b : Bool) → eqb (w k) (d k) ≡ b → (n : ℕ) →
        (length (differing w d k (suc n)) ≡ length (one k (w k) (d k)) + length (differing w d (k + 1) n))
        × (sets f (3 * c) (numbers (differing w d k (suc n))) ≡ sets (sets f (3 * c) (numbers (one k (w k) (d k)))) (3 * (c + length (one k (w k) (d k)))) (numbers (differing w d (k + 1) n)))
    unfolding differing one numbers
    by true e n =
        let z : c + 0 ≡ c = omega arith in
        (rw e (omega arith), rw (e, z))
    by false e n =
        let x = set (set (set f (3 * c) k) (suc (3 * c)) (w k)) (suc (suc (3 * c))) (d k) in
        let z : suc (suc (suc (3 * c))) ≡ 3 * (c + 1) = omega arith in
        (rw e (omega arith), rw e (ap (λ (i : ℕ). sets x i (numbers (differing w d (k + 1) n))) z))

    one_le : (b : Bool) → eqb (w k) (d k) ≡ b → length (one k (w k) (d k)) ≤ 1
    unfolding one
    one_le true e = rw e (omega arith)
    one_le false e = rw e (omega arith)

    pub listing_next : k < 119 → (r : ℕ) → r ≡ c + length (one k (w k) (d k)) → (u : List ℕ) → u ≡ sets f (3 * c) (numbers (one k (w k) (d k))) → Listing w d f₀ u r (k + 1)
    listing_next l r er u eu =
        let z : 119 - k ≡ suc (119 - (k + 1)) = omega arith in
        let b = by (eqb (w k) (d k)) refl (119 - (k + 1)) in
        let g = one_le (eqb (w k) (d k)) refl in
        record {
          few = omega (arith, h.few, g);
          high = omega arith;
          count = h.count ∙ ap (λ (m : ℕ). c + length (differing w d k m)) z ∙ omega (arith, b.0, er);
          same = h.same ∙ ap (λ (m : ℕ). sets f (3 * c) (numbers (differing w d k m))) z ∙ b.1
              ∙ ap (λ (x : List ℕ). sets x (3 * (c + length (one k (w k) (d k)))) (numbers (differing w d (k + 1) (119 - (k + 1))))) (sym eu)
              ∙ ap (λ (i : ℕ). sets u (3 * i) (numbers (differing w d (k + 1) (119 - (k + 1))))) (sym er);
        }

    pub listing_end : 119 ≤ k → (c ≡ length (differences w d)) × (f ≡ sets f₀ 0 (numbers (differences w d)))
    unfolding differing numbers
    listing_end l =
        let z : 119 - k ≡ 0 = omega arith in (
          sym (h.count ∙ ap (λ (m : ℕ). c + length (differing w d k m)) z ∙ omega arith),
          sym (h.same ∙ ap (λ (m : ℕ). sets f (3 * c) (numbers (differing w d k m))) z),
        )

pub ruleset one_laws = (stored, one_same, one_differs)

pub ruleset listing_laws = (listing_start, listing_room, listing_next, listing_end)
