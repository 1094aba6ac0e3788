-- The table of listed numbers emptied for the atoms of a record: its places before k of each kind, one atom after the other.
use Rattle.std.specs.Prelude.{ℕ, zero, suc, ◌+◌, ◌*◌, ◌≤◌, ◌<◌, ◌≡◌, List, [], ◌∷◌, Bool, true, false, eqb, get_or, set, length}
use Rattle.std.proofs.Common.{add-one, arith, sym, ap, ◌∙◌, subst, eqb-true}
use Rattle.std.proofs.Math.Path.{refl}
use Rattle.std.proofs.Math.ListN.{length-set}
use Rattle.std.proofs.lemmas.Bool.{eqb-false}
use Rattle.rules.specs.Forms.{Kind, CHG, RAD, ISO}
use Rattle.rules.specs.Record.{limit}
use Rattle.line_property.specs.Listed.{places, slot, emptied}

pub emptied_size : (k : ℕ) (t : List ℕ) → length (emptied k t) ≡ length t
unfolding emptied
emptied_size zero t = refl
emptied_size (suc k) t =
    let a = emptied k t in
    length-set (set (set a k 0) (places + k) 0) (2 * places + k) 0 ∙ length-set (set a k 0) (places + k) 0 ∙ length-set a k 0 ∙ emptied_size k t

-- ---- What is 0 there

zero_set : (t : List ℕ) (i : ℕ) → get_or (set t i 0) i 0 ≡ 0
zero_set [] i = refl
zero_set (x ∷ t) zero = refl
zero_set (x ∷ t) (suc i) = zero_set t i

zero_kept : (t : List ℕ) (i j : ℕ) → get_or t j 0 ≡ 0 → get_or (set t i 0) j 0 ≡ 0
zero_kept [] i j h = refl
zero_kept (x ∷ t) zero zero h = refl
zero_kept (x ∷ t) zero (suc j) h = h
zero_kept (x ∷ t) (suc i) zero h = h
zero_kept (x ∷ t) (suc i) (suc j) h = zero_kept t i j h

here : (k : ℕ) (t : List ℕ) (kind : Kind) → get_or (emptied (suc k) t) (slot kind k) 0 ≡ 0
unfolding emptied
here k t CHG =
    let e : 0 + k ≡ k = omega arith in
    let a = emptied k t in
    rw e (zero_kept (set (set a k 0) (places + k) 0) (2 * places + k) k (zero_kept (set a k 0) (places + k) k (zero_set a k)))
here k t RAD =
    let a = set (emptied k t) k 0 in
    zero_kept (set a (places + k) 0) (2 * places + k) (places + k) (zero_set a (places + k))
here k t ISO = zero_set (set (set (emptied k t) k 0) (places + k) 0) (2 * places + k)

pub emptied_at : (k : ℕ) (t : List ℕ) (kind : Kind) (atom : ℕ) → atom < k → get_or (emptied k t) (slot kind atom) 0 ≡ 0
unfolding emptied
emptied_at zero t kind atom h = absurd (omega arith)
emptied_at (suc k) t kind atom h = go (eqb atom k) refl (λ l. emptied_at k t kind atom l)
  where
    go : (b : Bool) → eqb atom k ≡ b → (atom < k → get_or (emptied k t) (slot kind atom) 0 ≡ 0) → get_or (emptied (suc k) t) (slot kind atom) 0 ≡ 0
    go true q before = subst (λ (a : ℕ). get_or (emptied (suc k) t) (slot kind a) 0 ≡ 0) (sym (eqb-true atom k q)) (here k t kind)
    go false q before =
        let d = eqb-false atom k q in
        let a = emptied k t in
        zero_kept (set (set a k 0) (places + k) 0) (2 * places + k) (slot kind atom)
        (zero_kept (set a k 0) (places + k) (slot kind atom) (zero_kept a k (slot kind atom) (before (omega arith))))

-- ---- As the code goes

-- the atoms before k are done
pub record Emptying (n k : ℕ) (t₀ t : List ℕ) : Type 0 where
  pub within : k ≤ n + 1
  pub few : n ≤ limit
  pub size : length t ≡ 3 * places
  pub same : t ≡ emptied k t₀

module _ (n : ℕ) (t₀ : List ℕ) where
  pub emptying_start : n ≤ limit → length t₀ ≡ 3 * places → Emptying n 0 t₀ t₀
  unfolding emptied
  emptying_start few size = record { within = omega arith; few = few; size = size; same = refl }

  module _ (k : ℕ) (t : List ℕ) (g : Emptying n k t₀ t) where
    pub emptying_next : k < n + 1 → Emptying n (k + 1) t₀ (set (set (set t k 0) (places + k) 0) (2 * places + k) 0)
    unfolding emptied
    emptying_next h =
        record {
          within = omega arith;
          few = g.few;
          size = length-set (set (set t k 0) (places + k) 0) (2 * places + k) 0 ∙ length-set (set t k 0) (places + k) 0 ∙ length-set t k 0 ∙ g.size;
          same = rw (add-one k, ← g.same);
        }

    pub emptying_first : k < n + 1 → k < length t
    emptying_first h = omega (arith, g.few, g.size)

    pub emptying_second : k < n + 1 → places + k < length (set t k 0)
    emptying_second h = rw (length-set t k 0) (omega (arith, g.few, g.size))

    pub emptying_third : k < n + 1 → 2 * places + k < length (set (set t k 0) (places + k) 0)
    emptying_third h = rw (length-set (set t k 0) (places + k) 0, length-set t k 0) (omega (arith, g.few, g.size))

    pub emptying_end : n + 1 ≤ k → t ≡ emptied (n + 1) t₀
    emptying_end h = let e : k ≡ n + 1 = omega (arith, g.within) in g.same ∙ ap (λ (j : ℕ). emptied j t₀) e

pub ruleset emptying = (emptying_start, emptying_next, emptying_first, emptying_second, emptying_third, emptying_end)
