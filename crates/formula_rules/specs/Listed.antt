-- What is listed as different: every element but hydrogen of which not as many are written as drawn, and nothing else; by rising number.
use Prim.Native.Nat.{ℕ, zero, suc, ◌+◌, ◌-◌, ◌≤◌, ◌<◌}
use Rattle.std.proofs.Common.{arith}
use Rattle.std.specs.Prelude.{◌≡◌, ◌≢◌, ◌↔◌, List, ◌∷◌, Bool, cond}
use Rattle.std.proofs.Math.Path.{refl, subst}
use Rattle.std.proofs.Math.Bool.{true, false}
use Rattle.std.proofs.Math.Dec.{eqb}
use borrow.Author.Tests.{eqb-true, eqb-false}
use Rattle.formula_rules.specs.Formula.{Element, elements}
use Rattle.formula_rules.specs.Verdict.{Difference, differing, differences}

pub data Lists (x : Difference) : List Difference → Type 0 where
  here : {xs : List Difference} → Lists x (x ∷ xs)
  there : {y : Difference} {xs : List Difference} → Lists x xs → Lists x (y ∷ xs)

pub record Differs (w d : ℕ → ℕ) (x : Difference) : Type 0 where
  pub is_element : Element x.element
  pub no_hydrogen : x.element ≢ 1
  pub as_written : x.written ≡ w x.element
  pub as_drawn : x.drawn ≡ d x.element
  pub apart : x.written ≢ x.drawn

module _ (w d : ℕ → ℕ) where
  abbrev entry : ℕ → Difference
  entry k = record { element = k; written = w k; drawn = d k }

  record From (x : Difference) (k n : ℕ) : Type 0 where
    low : k ≤ x.element
    high : x.element < k + n
    as_written : x.written ≡ w x.element
    as_drawn : x.drawn ≡ d x.element
    apart : x.written ≢ x.drawn

  listed_from : (k n : ℕ) {x : Difference} → Lists x (differing w d k n) → From x k n
  unfolding differing
  listed_from k zero {x} h = elim h [ ]
  listed_from k (suc n) {x} h = go (eqb (w k) (d k)) refl (λ i. listed_from (k + 1) n i) h
    where
      on : From x (k + 1) n → From x k (suc n)
      on r = record { low = omega (arith, r.low); high = omega (arith, r.high); as_written = r.as_written; as_drawn = r.as_drawn; apart = r.apart }

      first : {x : Difference} {xs : List Difference} {y : Difference} → Lists x (y ∷ xs) → y ≡ entry k → (w k ≡ d k → ⊥) → (Lists x xs → From x k (suc n)) → From x k (suc n)
      first here q f g = rw q (record { low = omega arith; high = omega arith; as_written = refl; as_drawn = refl; apart = f })
      first (there l) q f g = g l

      go : (t : Bool) → eqb (w k) (d k) ≡ t → (Lists x (differing w d (k + 1) n) → From x (k + 1) n) →
          Lists x (cond t (differing w d (k + 1) n) (entry k ∷ differing w d (k + 1) n)) → From x k (suc n)
      go true e f l = on (f l)
      go false e f l = first l refl (eqb-false (w k) (d k) e) (λ i. on (f i))

  from_listed : (k n j : ℕ) → k ≤ j → j < k + n → w j ≢ d j → Lists (entry j) (differing w d k n)
  unfolding differing
  from_listed k zero j l m f = absurd (omega arith)
  from_listed k (suc n) j l m f = go (eqb (w k) (d k)) refl (eqb k j) refl (λ p q. from_listed (k + 1) n j p q f)
    where
      go : (t : Bool) → eqb (w k) (d k) ≡ t → (u : Bool) → eqb k j ≡ u → (k + 1 ≤ j → j < k + 1 + n → Lists (entry j) (differing w d (k + 1) n)) → Lists (entry j) (cond t (differing w d (k + 1) n) (entry k ∷ differing w d (k + 1) n))
      go true e true g r = absurd (f (subst (λ (i : ℕ). w i ≡ d i) (eqb-true k j g) (eqb-true (w k) (d k) e)))
      go true e false g r = let q : (k ≡ j → ⊥) = eqb-false k j g in r (omega arith) (omega arith)
      go false e true g r = subst (λ (i : ℕ). Lists (entry i) (entry k ∷ differing w d (k + 1) n)) (eqb-true k j g) here
      go false e false g r = let q : (k ≡ j → ⊥) = eqb-false k j g in there (r (omega arith) (omega arith))

  pub listed : (x : Difference) → Lists x (differences w d) ↔ Differs w d x
  listed x = (
    (λ h.
        let r = listed_from 2 (elements - 1) h in
        record {
          is_element = record { low = omega (arith, r.low); high = omega (arith, r.high) };
          no_hydrogen = λ e. omega (arith, r.low);
          as_written = r.as_written;
          as_drawn = r.as_drawn;
          apart = r.apart;
        }),
    (λ h. back x h.as_written h.as_drawn
        (let n : (x.element ≡ 1 → ⊥) = h.no_hydrogen in from_listed 2 (elements - 1) x.element (omega (arith, h.is_element.low)) (omega (arith, h.is_element.high)) (λ e. h.apart (rw (h.as_written, h.as_drawn) e)))),
  )
    where
      back : (x : Difference) → x.written ≡ w x.element → x.drawn ≡ d x.element → Lists (entry x.element) (differences w d) → Lists x (differences w d)
      back x p q l = subst (λ (y : Difference). Lists y (differences w d)) (same x p q) l
        where
          same : (x : Difference) → x.written ≡ w x.element → x.drawn ≡ d x.element → entry x.element ≡ x
          same x p q = rw (p, q)
