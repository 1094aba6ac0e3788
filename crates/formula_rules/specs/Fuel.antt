-- A reading ends behind where it starts and in the text; and more calls than bytes and depth give no other reading.
use Prim.Native.Nat.{ℕ, zero, suc, ◌+◌, ◌-◌, ◌≤◌, ◌<◌}
use Rattle.std.specs.Prelude.{◌≡◌, List, Bool, cond, ◌&&◌, ltb, length}
use Rattle.std.proofs.Math.Path.{refl, ap}
use Rattle.std.proofs.Common.{◌∙◌}
use Rattle.std.proofs.Math.Bool.{true, false, and-eq-true_iff}
use native.Mathlib.Omega.{arith}
use Rattle.std.proofs.Math.Dec.{eqb}
use borrow.Author.Tests.{eqb-true}
use Rattle.formula_rules.specs.Formula.{byte_at, Tree}
use Rattle.formula_rules.specs.Formula as F
use Rattle.formula_rules.specs.Parse.{UnitRead, unit, UnitsRead, units, counted, count_at, symbol_at, closed, onto, after, chosen, units_by, group_by, enough, units_of, group_of}
use Rattle.formula_rules.specs.Bytes.{is_capital, between_from, inside}
use Rattle.formula_rules.specs.Ends.{UnitIn, count_in_lem, counted_in, symbol_in_lem}

unfoldable pub UnitsIn : List ℕ → ℕ → UnitsRead → Type 0
UnitsIn s a (units e ts) = (a ≤ e) × (e ≤ length s)
UnitsIn s a UnitsRead.no = Unit {0}

module _ (s : List ℕ) where
  onto_in : (a n : ℕ) (t : Tree) (r : UnitsRead) → UnitsIn s n r → a < n → UnitsIn s a (onto t r)
  unfolding UnitsIn
  onto_in a n t (units e ts) h l = (omega arith, h.1)
  onto_in a n t UnitsRead.no h l = tt

  after_in : (a : ℕ) (g : UnitRead) (k : ℕ → UnitsRead) → UnitIn s a g → ((n : ℕ) → n ≤ length s → UnitsIn s n (k n)) → UnitsIn s a (after g k)
  unfolding UnitIn UnitsIn
  after_in a (unit n t) k h f = onto_in a n t (k n) (f n h.1) h.0
  after_in a UnitRead.no k h f = tt

  closed_in : (a : ℕ) (r : UnitsRead) → UnitsIn s a r → UnitIn s a (closed s a r)
  unfolding UnitsIn UnitIn
  closed_in a (units e ts) h = go (ltb a e && eqb (byte_at s e) 41) refl
    where
      go : (t : Bool) → (ltb a e && eqb (byte_at s e) 41) ≡ t → UnitIn s a (cond t (counted (F.group ts) (count_at s (e + 1))) UnitRead.no)
      go true q =
          let p = (and-eq-true_iff (ltb a e) (eqb (byte_at s e) 41)).0 q in
          let l = inside s e (omega (arith, eqb-true (byte_at s e) 41 p.1)) in
          counted_in s a (e + 1) (F.group ts) (count_at s (e + 1)) (count_in_lem s (e + 1) (omega arith)) (omega arith)
      go false q = tt
  closed_in a UnitsRead.no h = tt

  weaker : (a b : ℕ) (g : UnitRead) → a ≤ b → UnitIn s b g → UnitIn s a g
  unfolding UnitIn
  weaker a b (unit n t) l h = (omega arith, h.1)
  weaker a b UnitRead.no l h = tt

  open_inside : (a : ℕ) → eqb (byte_at s a) 40 ≡ true → a < length s
  open_inside a e = inside s a (omega (arith, eqb-true (byte_at s a) 40 e))

  capital_inside : (a : ℕ) → is_capital (byte_at s a) ≡ true → a < length s
  capital_inside a e = inside s a (omega (arith, between_from 65 90 (byte_at s a) e))

  chosen_in : (a : ℕ) (p q : Bool) → eqb (byte_at s a) 40 ≡ p → is_capital (byte_at s a) ≡ q → (g : UnitRead) (k : ℕ → UnitsRead) → a ≤ length s →
      (a + 1 ≤ length s → UnitIn s (a + 1) g) → ((n : ℕ) → n ≤ length s → UnitsIn s n (k n)) → UnitsIn s a (chosen p q g (symbol_at s a) a k)
  unfolding UnitsIn
  chosen_in a true q e f g k w hg hk = let l = open_inside a e in after_in a g k (weaker a (a + 1) g (omega arith) (hg (omega arith))) hk
  chosen_in a false true e f g k w hg hk = after_in a (symbol_at s a) k (symbol_in_lem s a (capital_inside a f)) hk
  chosen_in a false false e f g k w hg hk = (omega arith, w)

  mutual
    unfolding units_by UnitsIn UnitIn

    pub units_in : (f d a : ℕ) → a ≤ length s → UnitsIn s a (units_by f s d a)
    units_in zero d a w = tt
    units_in (suc f) d a w = chosen_in a (eqb (byte_at s a) 40) (is_capital (byte_at s a)) refl refl (group_by f s d (a + 1)) (units_by f s d) w (λ h. group_in f d (a + 1) h) (λ n h. units_in f d n h)

    pub group_in : (f d a : ℕ) → a ≤ length s → UnitIn s a (group_by f s d a)
    group_in zero d a w = tt
    group_in (suc f) zero a w = tt
    group_in (suc f) (suc d) a w = closed_in a (units_by f s d a) (units_in f d a w)

  after_same : (a : ℕ) (g : UnitRead) (k j : ℕ → UnitsRead) → UnitIn s a g → ((n : ℕ) → a < n → n ≤ length s → k n ≡ j n) → after g k ≡ after g j
  unfolding UnitIn
  after_same a (unit n t) k j h f = ap (onto t) (f n h.0 h.1)
  after_same a UnitRead.no k j h f = refl

  chosen_same : (a : ℕ) (p q : Bool) → eqb (byte_at s a) 40 ≡ p → is_capital (byte_at s a) ≡ q → (g h : UnitRead) (k j : ℕ → UnitsRead) → a ≤ length s →
      (a + 1 ≤ length s → UnitIn s (a + 1) g) → (a + 1 ≤ length s → g ≡ h) → (a < length s → (n : ℕ) → a < n → n ≤ length s → k n ≡ j n) →
      chosen p q g (symbol_at s a) a k ≡ chosen p q h (symbol_at s a) a j
  chosen_same a true q e f g h k j w hg eg ek =
      let l = open_inside a e in
      after_same a g k j (weaker a (a + 1) g (omega arith) (hg (omega arith))) (ek l) ∙ ap (λ (x : UnitRead). after x j) (eg (omega arith))
  chosen_same a false true e f g h k j w hg eg ek =
      let l = capital_inside a f in
      after_same a (symbol_at s a) k j (symbol_in_lem s a l) (ek l)
  chosen_same a false false e f g h k j w hg eg ek = refl

  mutual
    unfolding units_by

    pub units_same : (f g d a : ℕ) → a ≤ length s → length s - a + d < f → length s - a + d < g → units_by f s d a ≡ units_by g s d a
    units_same zero g d a w p q = absurd (omega arith)
    units_same (suc f) zero d a w p q = absurd (omega arith)
    units_same (suc f) (suc g) d a w p q =
        chosen_same a (eqb (byte_at s a) 40) (is_capital (byte_at s a)) refl refl (group_by f s d (a + 1)) (group_by g s d (a + 1)) (units_by f s d) (units_by g s d) w
        (λ h. group_in f d (a + 1) h) (λ h. group_same f g d (a + 1) h (omega arith) (omega arith)) (λ l n h i. units_same f g d n i (omega arith) (omega arith))

    pub group_same : (f g d a : ℕ) → a ≤ length s → length s - a + d < f → length s - a + d < g → group_by f s d a ≡ group_by g s d a
    group_same zero g d a w p q = absurd (omega arith)
    group_same (suc f) zero d a w p q = absurd (omega arith)
    group_same (suc f) (suc g) zero a w p q = refl
    group_same (suc f) (suc g) (suc d) a w p q = ap (closed s a) (units_same f g d a w (omega arith) (omega arith))

  -- the reading from a, by the byte that stands there
  pub units_is : (d a : ℕ) → a ≤ length s → units_of s d a ≡ chosen (eqb (byte_at s a) 40) (is_capital (byte_at s a)) (group_of s d (a + 1)) (symbol_at s a) a (units_of s d)
  unfolding units_of group_of units_by
  units_is d a w =
      chosen_same a (eqb (byte_at s a) 40) (is_capital (byte_at s a)) refl refl (group_by (length s - a + d) s d (a + 1)) (group_of s d (a + 1)) (units_by (length s - a + d) s d) (units_of s d) w
      (λ h. group_in (length s - a + d) d (a + 1) h) (λ h. group_same (length s - a + d) (enough s d (a + 1)) d (a + 1) h (omega arith) (omega arith))
      (λ l n h i. units_same (length s - a + d) (enough s d n) d n i (omega arith) (omega arith))

  pub group_none : (a : ℕ) → group_of s 0 a ≡ UnitRead.no
  unfolding group_of units_by
  group_none a = refl

  pub group_is : (d a : ℕ) → a ≤ length s → group_of s (suc d) a ≡ closed s a (units_of s d a)
  unfolding units_of group_of units_by
  group_is d a w = ap (closed s a) (units_same (length s - a + suc d) (enough s d a) d a w (omega arith) (omega arith))

  pub group_of_in : (d a : ℕ) → a ≤ length s → UnitIn s a (group_of s d a)
  unfolding group_of
  group_of_in d a w = group_in (enough s d a) d a w
