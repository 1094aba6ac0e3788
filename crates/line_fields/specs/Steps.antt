-- One field after the other, as the code goes: how a line's judgement goes on after a field that is good, and what it is after one that is not.
use Rattle.std.specs.Prelude.{IsErrAnd, Result, Ok, Err, Option, Some, None, ℕ, ◌≤◌, ◌≡◌, refl, Bool, true, false, not, eqb, ℤ}
use Rattle.std.proofs.Common.{sym, ap, ◌∙◌, SFits, to_z, of_z, to_z-of_z, eq-eqb, ne_eqb}
use Rattle.std.specs.Int.{w32}
use Rattle.text.specs.Text.{Line, byte}
use Rattle.text.specs.Columns.{column, columns}
use Rattle.text.specs.Find.{ink_column}
use Rattle.field_numbers.specs.Number.{Between}
use Rattle.field_numbers.specs.Read.{number_in, signed_in}
use Rattle.field_coordinates.specs.Read.{coordinate_in}
use Rattle.field_symbols.specs.Read.{symbol_in}
use Rattle.judge_line.specs.Got.{Got, got, bad, then, need, got_by}
use Rattle.judge_line.specs.Field.{number_at, signed_at, coordinate_at, symbol_at, space_at, spaces_from}
use Rattle.judge_line.specs.AgreeField.{number_got_lem, signed_got_lem}
use Rattle.line_fields.specs.Answer.{field_got, signed_field_got}
use Rattle.judge_line.specs.declared.Refusal.{Refusal}
use Rattle.field_numbers.specs.declared.NumberFault.{NumberFault}

-- an i32 that fits is the number it was made of
pub hop : (z : ℤ) → SFits w32 z → to_z w32 (of_z w32 z) ≡ z
hop z f = to_z-of_z {w = w32} {z = z} f

module _ {A : Type 0} (a : Got ℕ) (f : ℕ → Got A) (x : Result ℕ Refusal) where
  pub field_next : (g : Got A) (k : ℕ) → field_got x ≡ a → x ≡ Ok k → g ≡ f k → g ≡ then a f
  unfolding then
  field_next g k e h s = rw (← e, h) s

  pub field_stop : (r : Refusal) → field_got x ≡ a → x ≡ Err r → bad r.no r.column ≡ then a f
  unfolding then
  field_stop r q h = rw (← q, h)

module _ {A : Type 0} (a : Got ℤ) (f : ℤ → Got A) (x : Result ℤ Refusal) where
  pub signed_next : (g : Got A) (z : ℤ) → signed_field_got x ≡ a → x ≡ Ok z → SFits w32 z → g ≡ f (to_z w32 (of_z w32 z)) → g ≡ then a f
  unfolding then
  signed_next g z e h s k = rw (← e, h) (rw (hop z s) at k)

  pub signed_stop : (r : Refusal) → signed_field_got x ≡ a → x ≡ Err r → bad r.no r.column ≡ then a f
  unfolding then
  signed_stop r q h = rw (← q, h)

-- a refusal that is handed on
pub given_back : {U B : Type 0} (shown : U → B) (y : Result U Refusal) (r : Refusal) (x : Got B) → bad r.no r.column ≡ x → IsErrAnd y (λ e. e ≡ r) → got_by shown y ≡ x
given_back shown (Ok u) r x k h = absurd h
given_back shown (Err p) r x k h = rw h k

module _ {T U A B : Type 0} (a : Got A) (f : A → Got B) (is : T → A) (shown : U → B) (x : Result T Refusal) (r : Refusal) where
  pub handed_on : got_by is x ≡ a → x ≡ Err r → (y : Result U Refusal) → IsErrAnd y (λ e. e ≡ r) → got_by shown y ≡ then a f
  unfolding then
  handed_on e h y = given_back shown y r (then a f) (rw (← e, h))

module _ {A : Type 0} (x : Got A) where
  pub need_next : (b : Bool) (e column : ℕ) (g : Got A) → b ≡ true → g ≡ x → g ≡ need b e column x
  unfolding need
  need_next b e column g h k = rw h k

  pub need_stop : (b : Bool) (e column : ℕ) → b ≡ false → bad e column ≡ need b e column x
  unfolding need
  need_stop b e column h = rw h

  pub rest_next : (l : Line) (i : ℕ) (found : Option ℕ) (g : Got A) → found ≡ ink_column l i → found ≡ None → g ≡ x → g ≡ spaces_from l i x
  unfolding spaces_from
  rest_next l i found g e h k = rw (← e, h) k

  pub rest_stop : (l : Line) (i : ℕ) (found : Option ℕ) (column : ℕ) → found ≡ ink_column l i → found ≡ Some column → bad 15 column ≡ spaces_from l i x
  unfolding spaces_from
  rest_stop l i found column e h = rw (← e, h)

  pub space_next : (l : Line) (i b : ℕ) (g : Got A) → b ≡ column l i → b ≡ 32 → g ≡ x → g ≡ space_at l i x
  unfolding space_at need
  space_next l i b g e h k = rw (eq-eqb (column l i) (byte " ") (sym e ∙ h)) k

  pub space_stop : (l : Line) (i b : ℕ) → b ≡ column l i → (b ≡ 32 → ⊥) → bad 15 i ≡ space_at l i x
  unfolding space_at need
  space_stop l i b e h = rw (ne_eqb (column l i) (byte " ") (λ q. h (e ∙ q)))

-- a test that a function answers
pub flag_true : (x b : Bool) → x ≡ b → x ≡ true → b ≡ true
flag_true x b e h = sym e ∙ h

pub flag_false : (x b : Bool) → x ≡ b → x ≡ false → b ≡ false
flag_false x b e h = sym e ∙ h

-- two numbers that are the same, or not
pub ends_same : (a b : ℕ) → a ≡ b → not (eqb a b) ≡ false
ends_same a b e = rw (eq-eqb a b e)

pub ends_apart : (a b : ℕ) → (a ≡ b → ⊥) → not (eqb a b) ≡ true
ends_apart a b e = rw (ne_eqb a b e)

-- a field's number is within its range
pub field_most : (l : Line) (i j least most : ℕ) (x : Result ℕ Refusal) (k : ℕ) → field_got x ≡ number_at l i j least most → x ≡ Ok k → k ≤ most
field_most l i j least most x k e h = (number_got_lem l i j least most k (sym e ∙ ap field_got h)).high

pub signed_range : (l : Line) (i j below above : ℕ) (x : Result ℤ Refusal) (z : ℤ) → signed_field_got x ≡ signed_at l i j below above → x ≡ Ok z → Between below above z
signed_range l i j below above x z e h = (signed_got_lem l i j below above z (sym e ∙ ap signed_field_got h)).range

-- a good line
pub stands : {A : Type 0} (x : A) → x ≡ x
stands x = refl

pub ruleset steps = (field_next, field_stop, signed_next, signed_stop, handed_on, need_next, need_stop, rest_next, rest_stop, space_next, space_stop, flag_true, flag_false, ends_same, ends_apart, stands)

-- ---- one field

module _ (l : Line) (i j least most : ℕ) (x : Result ℕ NumberFault) (e : x ≡ number_in least most (columns l i j)) where
  pub number_is : (k : ℕ) → x ≡ Ok k → got k ≡ number_at l i j least most
  unfolding number_at
  number_is k h = rw (← e, h)

  pub number_malformed : x ≡ Err NumberFault.Malformed → bad 7 i ≡ number_at l i j least most
  unfolding number_at
  number_malformed h = rw (← e, h)

  pub number_outside : x ≡ Err NumberFault.Outside → bad 8 i ≡ number_at l i j least most
  unfolding number_at
  number_outside h = rw (← e, h)

module _ (l : Line) (i j below above : ℕ) (x : Result ℤ NumberFault) (e : x ≡ signed_in below above (columns l i j)) where
  pub signed_is : (z : ℤ) → x ≡ Ok z → SFits w32 z → got (to_z w32 (of_z w32 z)) ≡ signed_at l i j below above
  unfolding signed_at
  signed_is z h f = rw (← e, h) (ap got (hop z f))

  pub signed_malformed : x ≡ Err NumberFault.Malformed → bad 7 i ≡ signed_at l i j below above
  unfolding signed_at
  signed_malformed h = rw (← e, h)

  pub signed_outside : x ≡ Err NumberFault.Outside → bad 8 i ≡ signed_at l i j below above
  unfolding signed_at
  signed_outside h = rw (← e, h)

module _ (l : Line) (i j : ℕ) (x : Option ℤ) (e : x ≡ coordinate_in (columns l i j)) where
  pub coordinate_is : (z : ℤ) → x ≡ Some z → SFits w32 z → got (to_z w32 (of_z w32 z)) ≡ coordinate_at l i j
  unfolding coordinate_at
  coordinate_is z h f = rw (← e, h) (ap got (hop z f))

  pub coordinate_malformed : x ≡ None → bad 7 i ≡ coordinate_at l i j
  unfolding coordinate_at
  coordinate_malformed h = rw (← e, h)

module _ (l : Line) (i j : ℕ) (x : Option ℕ) (e : x ≡ symbol_in (columns l i j)) where
  pub symbol_is : (k : ℕ) → x ≡ Some k → got k ≡ symbol_at l i j
  unfolding symbol_at
  symbol_is k h = rw (← e, h)

  pub symbol_unknown : x ≡ None → bad 9 i ≡ symbol_at l i j
  unfolding symbol_at
  symbol_unknown h = rw (← e, h)

pub ruleset one_field =
    (number_is, number_malformed, number_outside, signed_is, signed_malformed, signed_outside, coordinate_is, coordinate_malformed, symbol_is, symbol_unknown)
