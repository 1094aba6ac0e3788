-- How a count comes to be read, by cases; and where counts and symbols end.
use Rattle.std.specs.Prelude.{ℕ, zero, suc, ◌+◌, ◌*◌, ◌-◌, ◌≤◌, ◌<◌, ◌≡◌, refl, List, Bool, true, false, cond, eqb, length}
use Rattle.std.proofs.Common.{arith}
use Rattle.formula_rules.specs.Formula.{byte_at, is_digit, Tree}
use Rattle.formula_rules.specs.Parse.{CountRead, count, UnitRead, unit, counted, count_at, symbol_end, element_at, element_unit, symbol_at}
use Rattle.formula_rules.specs.Bytes.{is_small, between_from, inside}

pub data CountView (s : List ℕ) (a : ℕ) : CountRead → Type 0 where
  none : is_digit (byte_at s a) ≡ false → CountView s a (count a 1)
  lone_zero : is_digit (byte_at s a) ≡ true → eqb (byte_at s a) 48 ≡ true → CountView s a CountRead.no
  lone_one : is_digit (byte_at s a) ≡ true → eqb (byte_at s a) 49 ≡ true → is_digit (byte_at s (a + 1)) ≡ false → CountView s a CountRead.no
  one : is_digit (byte_at s a) ≡ true → eqb (byte_at s a) 48 ≡ false → eqb (byte_at s a) 49 ≡ false → is_digit (byte_at s (a + 1)) ≡ false → CountView s a (count (a + 1) (byte_at s a - 48))
  two : is_digit (byte_at s a) ≡ true → eqb (byte_at s a) 48 ≡ false → is_digit (byte_at s (a + 1)) ≡ true → is_digit (byte_at s (a + 2)) ≡ false →
      CountView s a (count (a + 2) (10 * (byte_at s a - 48) + (byte_at s (a + 1) - 48)))
  three : is_digit (byte_at s a) ≡ true → eqb (byte_at s a) 48 ≡ false → is_digit (byte_at s (a + 1)) ≡ true → is_digit (byte_at s (a + 2)) ≡ true → is_digit (byte_at s (a + 3)) ≡ false →
      CountView s a (count (a + 3) (100 * (byte_at s a - 48) + 10 * (byte_at s (a + 1) - 48) + (byte_at s (a + 2) - 48)))
  four : is_digit (byte_at s a) ≡ true → is_digit (byte_at s (a + 1)) ≡ true → is_digit (byte_at s (a + 2)) ≡ true → is_digit (byte_at s (a + 3)) ≡ true → CountView s a CountRead.no

pub count_view : (s : List ℕ) (a : ℕ) → CountView s a (count_at s a)
unfolding count_at
count_view s a = go (is_digit (byte_at s a)) refl (eqb (byte_at s a) 48) refl (is_digit (byte_at s (a + 1))) refl (is_digit (byte_at s (a + 2))) refl (is_digit (byte_at s (a + 3))) refl (eqb (byte_at s a) 49) refl
  where
    go : (p : Bool) → is_digit (byte_at s a) ≡ p → (z : Bool) → eqb (byte_at s a) 48 ≡ z → (q : Bool) → is_digit (byte_at s (a + 1)) ≡ q →
        (r : Bool) → is_digit (byte_at s (a + 2)) ≡ r → (t : Bool) → is_digit (byte_at s (a + 3)) ≡ t → (o : Bool) → eqb (byte_at s a) 49 ≡ o →
        CountView s a (cond p (cond z CountRead.no (cond q (cond r (cond t CountRead.no (count (a + 3) (100 * (byte_at s a - 48) + 10 * (byte_at s (a + 1) - 48) + (byte_at s (a + 2) - 48))))
        (count (a + 2) (10 * (byte_at s a - 48) + (byte_at s (a + 1) - 48)))) (cond o CountRead.no (count (a + 1) (byte_at s a - 48))))) (count a 1))
    go false e z f q g r h t i o j = CountView.none e
    go true e true f q g r h t i o j = CountView.lone_zero e f
    go true e false f false g r h t i true j = CountView.lone_one e j g
    go true e false f false g r h t i false j = CountView.one e f j g
    go true e false f true g false h t i o j = CountView.two e f g h
    go true e false f true g true h false i o j = CountView.three e f g h i
    go true e false f true g true h true i o j = CountView.four e g h i

-- where a reading ends
unfoldable pub CountIn : List ℕ → ℕ → CountRead → Type 0
CountIn s a (count e c) = (a ≤ e) × (e ≤ length s)
CountIn s a CountRead.no = Unit {0}

unfoldable pub UnitIn : List ℕ → ℕ → UnitRead → Type 0
UnitIn s a (unit e t) = (a < e) × (e ≤ length s)
UnitIn s a UnitRead.no = Unit {0}

digit_inside : (s : List ℕ) (a : ℕ) → is_digit (byte_at s a) ≡ true → a < length s
digit_inside s a e = inside s a (omega (arith, between_from 48 57 (byte_at s a) e))

pub count_in_lem : (s : List ℕ) (a : ℕ) → a ≤ length s → CountIn s a (count_at s a)
unfolding CountIn
count_in_lem s a w = go (count_view s a)
  where
    go : {r : CountRead} → CountView s a r → CountIn s a r
    go (CountView.none e) = (omega arith, w)
    go (CountView.lone_zero e f) = tt
    go (CountView.lone_one e f g) = tt
    go (CountView.one e f g h) = (omega arith, omega (arith, digit_inside s a e))
    go (CountView.two e f g h) = (omega arith, omega (arith, digit_inside s (a + 1) g))
    go (CountView.three e f g h i) = (omega arith, omega (arith, digit_inside s (a + 2) h))
    go (CountView.four e f g h) = tt

pub counted_in : (s : List ℕ) (a b : ℕ) (t : ℕ → Tree) (r : CountRead) → CountIn s b r → a < b → UnitIn s a (counted t r)
unfolding CountIn UnitIn
counted_in s a b t (count e c) h l = (omega arith, h.1)
counted_in s a b t CountRead.no h l = tt

pub small_inside : (s : List ℕ) (a : ℕ) → is_small (byte_at s a) ≡ true → a < length s
small_inside s a e = inside s a (omega (arith, between_from 97 122 (byte_at s a) e))

pub symbol_end_lem : (s : List ℕ) (a : ℕ) → a < length s → (a < symbol_end s a) × (symbol_end s a ≤ length s)
unfolding symbol_end
symbol_end_lem s a w = go (is_small (byte_at s (a + 1))) refl
  where
    go : (t : Bool) → is_small (byte_at s (a + 1)) ≡ t → (a < cond t (a + 2) (a + 1)) × (cond t (a + 2) (a + 1) ≤ length s)
    go true e = (omega arith, omega (arith, small_inside s (a + 1) e))
    go false e = (omega arith, omega arith)

element_in : (s : List ℕ) (a b k : ℕ) → CountIn s b (count_at s b) → a < b → UnitIn s a (element_unit k (count_at s b))
unfolding UnitIn
element_in s a b zero h l = tt
element_in s a b (suc k) h l = counted_in s a b (Tree.atom (suc k)) (count_at s b) h l

pub symbol_in_lem : (s : List ℕ) (a : ℕ) → a < length s → UnitIn s a (symbol_at s a)
unfolding symbol_at
symbol_in_lem s a w =
    let e = symbol_end_lem s a w in
    element_in s a (symbol_end s a) (element_at s a) (count_in_lem s (symbol_end s a) e.1) e.0
