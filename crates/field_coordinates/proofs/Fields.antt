-- Laws on the ten columns of a coordinate field: its spaces, its point, its sign, its digits.
use Rattle.std.specs.Prelude.{Option, Some, None}
use Prim.Native.Nat.{ℕ, zero, suc, ◌+◌, ◌-◌, ◌*◌, ◌≤◌, ◌<◌}
use native.Mathlib.Omega.{arith}
use mathlib.Core.Path.{◌≡◌, refl, sym, ap, ◌∙◌}
use mathlib.Core.List.{[], ◌∷◌}
use mathlib.Core.Bool.{Bool, true, false, cond, and-false}
use lib.Dec.{eqb}
use lib.ListN.{length, get_or, take, drop, get_or-eq_default}
use lib.IntN.{ℤ, pos}
use borrow.Author.Tests.{eq-eqb, ne_eqb}
use Rattle.text.specs.Text.{Bytes, Line}
use Rattle.text.specs.Columns.{column, columns, columns_for}
use Rattle.text.specs.Agree.{columns_length, columns_step, columns_over, columns_take, columns_drop, columns_get}
use Rattle.field_numbers.specs.Number.{decimal_after}
use Rattle.field_numbers.specs.Read.{is_digit, all_digits, some_digits, after_spaces, signed}
use Rattle.field_numbers.specs.Agree.{some_digits_lem}
use Rattle.field_numbers.specs.SignSize.{size_in}
use Rattle.field_coordinates.specs.Agree.{nines, digits_range}
use Rattle.field_coordinates.specs.Read.{point_read, before_point, inked, blank_or, coordinate_in}

-- the ten columns from column i, and their parts
module _ (l : Line) (i : ℕ) where
  ten : columns l i (i + 9) ≡ columns_for l i 10
  ten = let k : suc (i + 9) - i ≡ 10 = omega arith in rw k

  first_five : take 5 (columns_for l i 10) ≡ columns_for l i (i + 5 - i)
  first_five = let k : i + 5 - i ≡ 5 = omega arith in rw k (columns_take l i 5 5)

  last_four : drop 6 (columns_for l i 10) ≡ columns_for l (i + 5 + 1) 4
  last_four = let k : i + 6 ≡ i + 5 + 1 = omega arith in columns_drop l i 6 4 ∙ ap (λ (j : ℕ). columns_for l j 4) k

-- the parts of a field that can be read: where one of them is missing, ten columns are blank or nothing
after_none : (ws fs : Bytes) → some_digits fs ≡ false → before_point ws fs ≡ None
unfolding before_point point_read
after_none [] fs h = refl
after_none (w ∷ ws) fs h = by (eqb w 45)
  where
    none : (minus : Bool) (ds : Bytes) → point_read minus ds fs ≡ None
    none minus ds = rw (h, and-false (some_digits ds))

    by : (t : Bool) → cond t (point_read true ws fs) (point_read false (w ∷ ws) fs) ≡ None
    by true = none true ws
    by false = none false (w ∷ ws)

same_both : (t : Bool) (r : Option ℤ) → r ≡ None → cond t r None ≡ None
same_both true r h = h
same_both false r h = refl

space_last : (a b c d : ℕ) → d ≡ 32 → some_digits (a ∷ b ∷ c ∷ d ∷ []) ≡ false
unfolding all_digits
space_last a b c d h = rw (h, and-false (is_digit c), and-false (is_digit b), and-false (is_digit a))

-- a line that ends before the tenth column
pub short_field : (l : Line) (i : ℕ) → 1 ≤ i → length l < i + 9 → inked (columns l i (i + 9)) ≡ None
unfolding inked columns_for
short_field l i one h =
    let k : length l ≤ suc (suc (suc (i + 5 + 1))) - 1 = omega arith in
    let last : column l (suc (suc (suc (i + 5 + 1)))) ≡ 32 = get_or-eq_default l 32 k in
    rw (ten l i)
    (same_both (eqb (get_or (columns_for l i 10) 5 0) 46) _
    (rw (last_four l i) (after_none (after_spaces (take 5 (columns_for l i 10))) (columns_for l (i + 5 + 1) 4) (space_last _ _ _ _ last))))

-- what is blank is blank in its first columns
spaces_take : (n : ℕ) (cs : Bytes) → after_spaces cs ≡ [] → after_spaces (take n cs) ≡ []
unfolding after_spaces
spaces_take zero cs h = refl
spaces_take (suc n) [] h = refl
spaces_take (suc n) (c ∷ cs) h = by (eqb c 32) h (spaces_take n cs)
  where
    by : (t : Bool) → cond t (after_spaces cs) (c ∷ cs) ≡ [] → (after_spaces cs ≡ [] → after_spaces (take n cs) ≡ []) → cond t (after_spaces (take n cs)) (c ∷ take n cs) ≡ []
    by true e ih = ih e
    by false e ih = absurd (let z : ◌≡◌ {A = ℕ} 0 1 = cc in omega arith)

ink_found : (cs bs : Bytes) (b : ℕ) → after_spaces (take 5 cs) ≡ b ∷ bs → coordinate_in cs ≡ inked cs
unfolding coordinate_in
ink_found cs bs b h = by (after_spaces cs) refl
  where
    by : (ys : Bytes) → after_spaces cs ≡ ys → blank_or ys (inked cs) ≡ inked cs
    by [] e = absurd (let z = sym (spaces_take 5 cs e) ∙ h in let q : ◌≡◌ {A = ℕ} 0 1 = cc in omega arith)
    by (y ∷ ys) e = refl

-- the spaces of all ten columns end at column b
module _ (l : Line) (i b : ℕ) (spaces : after_spaces (columns_for l i (i + 10 - i)) ≡ columns_for l b (i + 10 - b)) where
  passed : after_spaces (columns_for l i 10) ≡ columns_for l b (i + 10 - b)
  passed = let k : i + 10 - i ≡ 10 = omega arith in rw k at spaces

  pub blank_field : i + 10 ≤ b → Some (pos 0) ≡ coordinate_in (columns l i (i + 9))
  unfolding coordinate_in
  blank_field h = sym (rw (ten l i, passed, columns_over l b (i + 10) h))

  pub no_blank : b < i + 10 → inked (columns l i (i + 9)) ≡ None → None ≡ coordinate_in (columns l i (i + 9))
  unfolding coordinate_in
  no_blank h m = sym (rw (ten l i, passed, columns_step l b (i + 10) h) (rw (ten l i) at m))

pub ruleset blank_laws = (blank_field, no_blank)

-- the spaces before the point end at column a
module _ (l : Line) (i a : ℕ) (before : after_spaces (columns_for l i (i + 5 - i)) ≡ columns_for l a (i + 5 - a)) where
  pub no_digits : i + 5 ≤ a → inked (columns l i (i + 9)) ≡ None
  unfolding inked before_point
  no_digits h =
      rw (ten l i)
      (same_both (eqb (get_or (columns_for l i 10) 5 0) 46) _
      (rw (first_five l i, before, columns_over l a (i + 5) h)))

  -- c stands where the point has to be
  module _ (c : ℕ) (ink : a < i + 5) (six : c ≡ column l (i + 5)) where
    inked_field : coordinate_in (columns l i (i + 9)) ≡ inked (columns_for l i 10)
    inked_field =
        let f : after_spaces (take 5 (columns_for l i 10)) ≡ column l a ∷ columns_for l (a + 1) (i + 5 - (a + 1)) = ap after_spaces (first_five l i) ∙ before ∙ columns_step l a (i + 5) ink in
        rw (ten l i) (ink_found (columns_for l i 10) _ _ f)

    pub no_point : (c ≡ 46 → ⊥) → None ≡ coordinate_in (columns l i (i + 9))
    unfolding inked
    no_point n = sym (inked_field ∙ rw (columns_get l i 5 10 0 (omega arith), ne_eqb (column l (i + 5)) 46 (λ e. n (six ∙ e))))

    -- the point is there
    module _ (point : c ≡ 46) where
      pointed_field : coordinate_in (columns l i (i + 9)) ≡ before_point (columns_for l a (i + 5 - a)) (columns_for l (i + 5 + 1) 4)
      unfolding inked
      pointed_field = inked_field ∙ rw (columns_get l i 5 10 0 (omega arith), eq-eqb (column l (i + 5)) 46 (sym six ∙ point), first_five l i, before, last_four l i)

      pub minus_field : (d : ℕ) (r : Option ℤ) → d ≡ column l a → d ≡ 45 →
          r ≡ point_read true (columns_for l (a + 1) (i + 5 - (a + 1))) (columns_for l (i + 5 + 1) 4) → r ≡ coordinate_in (columns l i (i + 9))
      unfolding before_point
      minus_field d r s m e = e ∙ sym (pointed_field ∙ rw (columns_step l a (i + 5) ink, eq-eqb (column l a) 45 (sym s ∙ m)))

      pub plain_field : (d : ℕ) (r : Option ℤ) → d ≡ column l a → (d ≡ 45 → ⊥) →
          r ≡ point_read false (columns_for l a (i + 5 - a)) (columns_for l (i + 5 + 1) 4) → r ≡ coordinate_in (columns l i (i + 9))
      unfolding before_point
      plain_field d r s m e = e ∙ sym (pointed_field ∙ rw (columns_step l a (i + 5) ink, ne_eqb (column l a) 45 (λ k. m (s ∙ k))))

pub ruleset field_laws = (no_digits, no_point, minus_field, plain_field)

-- the digits of a field, before the point and after it
record Size-is (ds : Bytes) (k : ℕ) : Type 0 where
  some : some_digits ds ≡ true
  number : decimal_after 0 ds ≡ k

size_is : (ds : Bytes) (k : ℕ) → size_in ds ≡ Some k → Size-is ds k
unfolding size_in
size_is ds k h = go (some_digits ds) refl h where
  go : (t : Bool) → some_digits ds ≡ t → cond t (Some (decimal_after 0 ds)) None ≡ Some k → Size-is ds k
  go true e h = record { some = e; number = cc }
  go false e h = absurd (let z : ◌≡◌ {A = ℕ} 0 1 = cc in omega arith)

size_not : (ds : Bytes) → size_in ds ≡ None → some_digits ds ≡ false
unfolding size_in
size_not ds h = go (some_digits ds) refl h where
  go : (t : Bool) → some_digits ds ≡ t → cond t (Some (decimal_after 0 ds)) None ≡ None → some_digits ds ≡ false
  go true e h = absurd (let z : ◌≡◌ {A = ℕ} 0 1 = cc in omega arith)
  go false e h = e

-- n columns of digits at most
pub size_range : (l : Line) (a e n k : ℕ) (s : Option ℕ) → e - a ≤ n → s ≡ size_in (columns_for l a (e - a)) → s ≡ Some k → k ≤ nines 0 n
size_range l a e n k s h p q =
    let r = size_is (columns_for l a (e - a)) k (sym p ∙ q) in
    let d = digits_range n (some_digits_lem (columns_for l a (e - a)) r.some) (omega (arith, columns_length l a (e - a))) in
    omega (arith, r.number, d)

module _ (minus : Bool) (l : Line) (a p : ℕ) (s : Option ℕ) (before : s ≡ size_in (columns_for l a (p - a))) where
  pub no_whole : s ≡ None → None ≡ point_read minus (columns_for l a (p - a)) (columns_for l (p + 1) 4)
  unfolding point_read
  no_whole h = sym (rw (size_not (columns_for l a (p - a)) (sym before ∙ h)))

  module _ (whole : ℕ) (is : s ≡ Some whole) (t : Option ℕ) (after : t ≡ size_in (columns_for l (p + 1) (p + 5 - (p + 1)))) where
    after_four : t ≡ size_in (columns_for l (p + 1) 4)
    after_four = let k : p + 5 - (p + 1) ≡ 4 = omega arith in rw k at after

    pub no_part : t ≡ None → None ≡ point_read minus (columns_for l a (p - a)) (columns_for l (p + 1) 4)
    unfolding point_read
    no_part h =
        let r = size_is (columns_for l a (p - a)) whole (sym before ∙ is) in
        sym (rw (r.some, size_not (columns_for l (p + 1) 4) (sym after_four ∙ h)))

    pub both_parts : (part : ℕ) (z : ℤ) → t ≡ Some part → z ≡ signed minus (whole * 10000 + part) →
        Some z ≡ point_read minus (columns_for l a (p - a)) (columns_for l (p + 1) 4)
    unfolding point_read
    both_parts part z h v =
        let r = size_is (columns_for l a (p - a)) whole (sym before ∙ is) in
        let q = size_is (columns_for l (p + 1) 4) part (sym after_four ∙ h) in
        sym (rw (r.some, q.some, r.number, q.number, v))

pub ruleset digits_laws = (no_whole, no_part, both_parts)
