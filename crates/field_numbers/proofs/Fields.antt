-- Laws on the columns of an integer field, from column a up to column e: its spaces, its sign, its digits, the spaces after them.
use Rattle.std.specs.Prelude.{Result, Ok, Err, Option, Some, None}
use Prim.Native.Nat.{ℕ, zero, suc, ◌+◌, ◌-◌, ◌*◌, ◌^◌, ◌≤◌, ◌<◌, zero-le}
use native.Mathlib.Nat.{lt_of_lt_of_le, mul-le-mul_right, mul_assoc, pow-suc, pow-succ', pow-le-pow_right}
use native.Mathlib.Numerals.{add-one}
use native.Mathlib.Omega.{arith}
use mathlib.Core.Path.{◌≡◌, refl, sym, ap, ◌∙◌}
use mathlib.Core.List.{[], ◌∷◌, ◌++◌, append-nil}
use mathlib.Core.Bool.{Bool, true, false, cond, ◌&&◌}
use lib.Dec.{eqb, leb}
use lib.ListN.{length, length-append, get_or}
use lib.IntN.{ℤ, pos, neg_ℤ}
use borrow.Author.Tests.{leb-true, leb-false, eq-eqb, ne_eqb, le-leb, lt-leb}
use mir.Syntax.{w32}
use mir.Val.{Fits}
use Rattle.text.specs.Text.{Bytes, Line, Each}
use Rattle.text.specs.Columns.{column, columns, columns_for, spaces}
use Rattle.text.specs.Laws.{and_true, get_d_any}
use Rattle.text.specs.Agree.{columns_length, columns_step, columns_over, columns_join, columns_past}
use Rattle.field_numbers.specs.Number.{Digits, Integer, decimal_after}
use Rattle.field_numbers.specs.Read.{is, is_digit, all_digits, some_digits, after_spaces, before_spaces, signed, digits_read, after_blank, integer_in, ranged, number_in, signed_ranged, signed_in}
use Rattle.field_numbers.specs.Agree.{integer_read, led, before_ink, spaces_shed, shed_append, shed_front, trailed}
use Rattle.field_numbers.specs.SignSize.{sized_is, size_after, size_in, with_sign, sized_from, sized_in, integer_of, LineEnd, ShortNumber}
use Rattle.field_numbers.specs.declared.SignedSize.{SignedSize}
use Rattle.field_numbers.specs.declared.NumberFault.{NumberFault}

-- ---- the walk over leading spaces: what follows them from column i is what follows them from column a
pub record Passing (l : Line) (i e a : ℕ) : Type 0 where
  pub low : i ≤ a
  pub high : a ≤ e
  pub same : after_spaces (columns_for l i (e - i)) ≡ after_spaces (columns_for l a (e - a))

pub passing_start : (l : Line) (i e : ℕ) → i ≤ e → Passing l i e i
passing_start l i e h = record { low = omega arith; high = h; same = refl }

pub passing_next : (l : Line) (i e a b : ℕ) → Passing l i e a → a < e → b ≡ column l a → b ≡ 32 → Passing l i e (a + 1)
unfolding after_spaces
passing_next l i e a b p h c s = record {
  low = omega arith;
  high = omega arith;
  same = p.same ∙ rw (columns_step l a e h, eq-eqb (column l a) 32 (sym c ∙ s));
}

pub passing_stop : (l : Line) (i e a b : ℕ) → Passing l i e a → a < e → b ≡ column l a → (b ≡ 32 → ⊥) → after_spaces (columns_for l i (e - i)) ≡ columns_for l a (e - a)
unfolding after_spaces
passing_stop l i e a b p h c s = p.same ∙ rw (columns_step l a e h, ne_eqb (column l a) 32 (λ k. s (c ∙ k)))

pub passing_end : (l : Line) (i e a : ℕ) → Passing l i e a → e ≤ a → after_spaces (columns_for l i (e - i)) ≡ columns_for l e (e - e)
unfolding after_spaces
passing_end l i e a p h = p.same ∙ rw (columns_over l a e h, columns_over l e e (omega arith))

-- ---- the walk over digits and nothing else: those from column i on are those from column a on, after digits that stand for k
pub record Counting (l : Line) (i e k a : ℕ) : Type 0 where
  pub low : i ≤ a
  pub high : a ≤ e
  pub small : k < 10 ^ (a - i)
  pub same : size_in (columns_for l i (e - i)) ≡ size_after k (columns_for l a (e - a))

pub ten_mono : {m n : ℕ} → m ≤ n → 10 ^ m ≤ 10 ^ n
ten_mono h = pow-le-pow_right (omega arith) h

power_more : (i a : ℕ) → i ≤ a → 10 ^ (a + 1 - i) ≡ 10 ^ (a - i) * 10
power_more i a h =
    let k : a + 1 - i ≡ suc (a - i) = omega arith in
    rw (k, pow-suc)

pub digits_none : (l : Line) (i e : ℕ) → e ≤ i → None ≡ size_in (columns_for l i (e - i))
unfolding size_in
digits_none l i e h = rw (columns_over l i e h)

pub counting_start : (l : Line) (i e : ℕ) → i < e → Counting l i e 0 i
unfolding size_in size_after
counting_start l i e h =
    let z : i - i ≡ 0 = omega arith in
    record { low = omega arith; high = omega arith; small = rw z (omega arith); same = rw (columns_step l i e h) }

module _ (l : Line) (i e k a b : ℕ) (c : Counting l i e k a) (h : a < e) (s : b ≡ column l a) where
  pub counting_low : b < 48 → None ≡ size_in (columns_for l i (e - i))
  unfolding size_after all_digits
  counting_low low = sym (c.same ∙ rw (columns_step l a e h, ← s, lt-leb 48 b low))

  pub counting_high : 48 ≤ b → 57 < b → None ≡ size_in (columns_for l i (e - i))
  unfolding size_after all_digits
  counting_high low high = sym (c.same ∙ rw (columns_step l a e h, ← s, le-leb 48 b low, lt-leb b 57 high))

  pub counting_next : 48 ≤ b → b ≤ 57 → Counting l i e (k * 10 + (b - 48)) (a + 1)
  unfolding size_after all_digits decimal_after
  counting_next low high = record {
    low = omega arith;
    high = omega arith;
    small = omega (arith, power_more i a c.low, c.small);
    same = c.same ∙ rw (columns_step l a e h, ← s, le-leb 48 b low, le-leb b 57 high);
  }

pub counting_end : (l : Line) (i e k a : ℕ) → Counting l i e k a → e ≤ a → Some k ≡ size_in (columns_for l i (e - i))
unfolding size_after all_digits decimal_after
counting_end l i e k a c h = sym (c.same ∙ rw (columns_over l a e h))

-- in a turn k has at most eight digits
turn_small : (i e k a : ℕ) → k < 10 ^ (a - i) → a < e → e ≤ i + 9 → k < 100000000
turn_small i e k a s h w = omega (arith, s, ten_mono {m = a - i} {n = 8} (omega arith))

pub counting_times : (l : Line) (i e k a : ℕ) → Counting l i e k a → a < e → e ≤ i + 9 → Fits w32 (k * 10)
counting_times l i e k a c h w = record { fits = omega (arith, turn_small i e k a c.small h w) }

pub counting_plus : (l : Line) (i e k a b : ℕ) → Counting l i e k a → a < e → e ≤ i + 9 → b ≤ 57 → Fits w32 (k * 10 + (b - 48))
counting_plus l i e k a b c h w high = record { fits = omega (arith, turn_small i e k a c.small h w) }

-- ---- the walk over trailing spaces from the right: what stands before them up to column e is what stands before them up to column z
pub record Shedding (l : Line) (i e z : ℕ) : Type 0 where
  pub high : z ≤ e
  pub same : before_spaces (columns_for l i (e - i)) ≡ before_spaces (columns_for l i (z - i))

last_column : (l : Line) (i z : ℕ) → i < z → columns_for l i (z - i) ≡ columns_for l i (z - 1 - i) ++ (column l (z - 1) ∷ [])
unfolding columns_for
last_column l i z h =
    let p : z - i ≡ z - 1 - i + 1 = omega arith in
    let q : i + (z - 1 - i) ≡ z - 1 = omega arith in
    rw p (columns_join l i (z - 1 - i) 1 ∙ rw q)

pub shedding_start : (l : Line) (i e : ℕ) → Shedding l i e e
shedding_start l i e = record { high = omega arith; same = refl }

module _ (l : Line) (i e z b : ℕ) (s : Shedding l i e z) (h : i < z) (c : b ≡ column l (z - 1)) where
  pub shedding_next : b ≡ 32 → Shedding l i e (z - 1)
  shedding_next k =
      let xs : Bytes = columns_for l i (z - 1 - i) in
      let t : columns_for l i (z - i) ≡ xs ++ spaces 1 = last_column l i z h ∙ ap (λ (d : ℕ). xs ++ (d ∷ [])) (sym c ∙ k) in
      record { high = omega (arith, s.high); same = s.same ∙ ap before_spaces t ∙ shed_append xs 1 }

  pub shedding_stop : (b ≡ 32 → ⊥) → before_spaces (columns_for l i (e - i)) ≡ columns_for l i (z - i)
  unfolding before_spaces
  shedding_stop k =
      let d : ℕ = column l (z - 1) in
      let t = last_column l i z h in
      s.same ∙ ap before_spaces t ∙ shed_front (columns_for l i (z - 1 - i)) d [] (before_ink d [] (ne_eqb d 32 (λ x. k (c ∙ x)))) ∙ sym t

pub shedding_end : (l : Line) (i e z : ℕ) → Shedding l i e z → z ≤ i → before_spaces (columns_for l i (e - i)) ≡ columns_for l i (i - i)
unfolding before_spaces
shedding_end l i e z s h = s.same ∙ rw (columns_over l i z h, columns_over l i i (omega arith))

-- ---- the columns that the line has
pub line_short : (l : Line) (e : ℕ) → length l < e - 1 → LineEnd l e (length l + 1)
unfolding LineEnd
line_short l e h k = omega arith

pub line_long : (l : Line) (e : ℕ) → LineEnd l e e
unfolding LineEnd
line_long l e k = absurd (omega arith)

-- columns past the end of the line are spaces
past_shed : (l : Line) (i e r : ℕ) → r ≤ e → length l < r → before_spaces (columns_for l i (e - i)) ≡ before_spaces (columns_for l i (r - i))
unfolding before_spaces
past_shed l i e r h n = by (leb i r) refl
  where
    by : (t : Bool) → leb i r ≡ t → before_spaces (columns_for l i (e - i)) ≡ before_spaces (columns_for l i (r - i))
    by true t =
        let k : i ≤ r = leb-true i r t in
        let p : e - i ≡ r - i + (e - r) = omega arith in
        let q : i + (r - i) ≡ r = omega arith in
        let past : columns_for l (i + (r - i)) (e - r) ≡ spaces (e - r) = rw q (columns_past l r (e - r) n) in
        rw p (ap before_spaces (columns_join l i (r - i) (e - r) ∙ ap (λ (x : Bytes). columns_for l i (r - i) ++ x) past) ∙ shed_append (columns_for l i (r - i)) (e - r))
    by false t =
        let k : r < i = leb-false i r t in
        rw (columns_over l i r (omega arith), columns_past l i (e - i) (omega arith)) (spaces_shed (e - i))

pub line_shed : (l : Line) (i e r : ℕ) → r ≤ e → LineEnd l e r → before_spaces (columns_for l i (e - i)) ≡ before_spaces (columns_for l i (r - i))
unfolding LineEnd
line_shed l i e r h p = by (leb e r) refl
  where
    by : (t : Bool) → leb e r ≡ t → before_spaces (columns_for l i (e - i)) ≡ before_spaces (columns_for l i (r - i))
    by true t =
        let k : e ≤ r = leb-true e r t in
        let q : e ≡ r = omega arith in
        ap (λ (x : ℕ). before_spaces (columns_for l i (x - i))) q
    by false t = past_shed l i e r h (p (leb-false e r t))

-- ---- the field without its trailing spaces, then without its leading ones
shed_twice : (cs : Bytes) → before_spaces (before_spaces cs) ≡ before_spaces cs
shed_twice cs = let q = trailed cs in sym (ap before_spaces q.parts ∙ shed_append (before_spaces cs) q.count)

blank_shed : (cs : Bytes) → after_spaces cs ≡ [] → before_spaces cs ≡ []
blank_shed cs h =
    let q = led cs in
    ap before_spaces (q.parts ∙ ap (λ (r : Bytes). spaces q.count ++ r) h ∙ append-nil _) ∙ spaces_shed q.count

-- where something is left, not all of it is spaces
pub ink_left : (l : Line) (i e z a : ℕ) → before_spaces (columns_for l i (e - i)) ≡ columns_for l i (z - i) → i < z → after_spaces (columns_for l i (z - i)) ≡ columns_for l a (z - a) → a < z
ink_left l i e z a s h p = by (leb z a) refl
  where
    by : (t : Bool) → leb z a ≡ t → a < z
    by true t =
        let k : z ≤ a = leb-true z a t in
        let none : after_spaces (columns_for l i (z - i)) ≡ [] = p ∙ columns_over l a z k in
        let twice : before_spaces (columns_for l i (z - i)) ≡ columns_for l i (z - i) = ap before_spaces (sym s) ∙ shed_twice (columns_for l i (e - i)) ∙ s in
        let left : columns_for l i (z - i) ≡ [] = sym twice ∙ blank_shed (columns_for l i (z - i)) none in
        absurd (omega (arith, columns_length l i (z - i), ap length left))
    by false t = leb-false z a t

module _ (negatives : Bool) (l : Line) (i j e z : ℕ) (n : e ≤ j + 1) (p : LineEnd l (j + 1) e) (s : before_spaces (columns_for l i (e - i)) ≡ columns_for l i (z - i)) where
  shed_field : before_spaces (columns l i j) ≡ columns_for l i (z - i)
  shed_field = rw (← add-one j) (line_shed l i (j + 1) e n p ∙ s)

  pub sized_blank : z ≤ i → sized_is false 0 ≡ sized_in negatives (columns l i j)
  unfolding sized_in sized_from after_spaces
  sized_blank h = sym (rw (shed_field, columns_over l i z h))

  module _ (a : ℕ) (r : Option SignedSize) (q : after_spaces (columns_for l i (z - i)) ≡ columns_for l a (z - a)) where
    pub sized_signed : negatives ≡ true → r ≡ sized_from true (columns_for l a (z - a)) → r ≡ sized_in negatives (columns l i j)
    unfolding sized_in
    sized_signed t w = w ∙ sym (rw (shed_field, q, t))

    pub sized_plain : negatives ≡ false → i < z → r ≡ with_sign false (size_in (columns_for l a (z - a))) → r ≡ sized_in negatives (columns l i j)
    unfolding sized_in sized_from
    sized_plain t h w =
        let k : a < z = ink_left l i e z a s h q in
        w ∙ sym (rw (shed_field, q, t, columns_step l a z k))

-- ---- the sign
module _ (l : Line) (i e b : ℕ) (r : Option SignedSize) (h : i < e) (c : b ≡ column l i) where
  pub from_minus : b ≡ 45 → r ≡ with_sign true (size_in (columns_for l (i + 1) (e - (i + 1)))) → r ≡ sized_from true (columns_for l i (e - i))
  unfolding sized_from
  from_minus k w = w ∙ sym (rw (columns_step l i e h, ← c, k))

  pub from_plus : (b ≡ 45 → ⊥) → b ≡ 43 → r ≡ with_sign false (size_in (columns_for l (i + 1) (e - (i + 1)))) → r ≡ sized_from true (columns_for l i (e - i))
  unfolding sized_from
  from_plus m k w = w ∙ sym (rw (columns_step l i e h, ← c, k))

  pub from_bare : (b ≡ 45 → ⊥) → (b ≡ 43 → ⊥) → r ≡ with_sign false (size_in (columns_for l i (e - i))) → r ≡ sized_from true (columns_for l i (e - i))
  unfolding sized_from
  from_bare m p w = w ∙ sym (rw (columns_step l i e h, ← c, ne_eqb b 45 m, ne_eqb b 43 p))

-- ---- sign and size are the reading
sized_digits : (minus : Bool) (ds : Bytes) → integer_of (with_sign minus (size_in ds)) ≡ digits_read minus ds
unfolding integer_of digits_read with_sign size_in
sized_digits minus ds = by (some_digits ds) refl
  where
    by : (t : Bool) → some_digits ds ≡ t → integer_of (with_sign minus (size_in ds)) ≡ digits_read minus ds
    by true e = rw e
    by false e = rw e

sized_from_lem : (negatives : Bool) (cs : Bytes) → integer_of (sized_from negatives cs) ≡ after_blank negatives cs
unfolding integer_of sized_from after_blank
sized_from_lem negatives [] = refl
sized_from_lem negatives (b ∷ bs) = by (negatives && eqb b 45) (negatives && eqb b 43)
  where
    by : (s t : Bool) → integer_of (cond s (with_sign true (size_in bs)) (cond t (with_sign false (size_in bs)) (with_sign false (size_in (b ∷ bs)))))
        ≡ cond s (digits_read true bs) (cond t (digits_read false bs) (digits_read false (b ∷ bs)))
    by true t = sized_digits true bs
    by false true = sized_digits false bs
    by false false = sized_digits false (b ∷ bs)

pub integer_of_lem : (negatives : Bool) (cs : Bytes) → integer_in negatives cs ≡ integer_of (sized_in negatives cs)
unfolding integer_in sized_in
integer_of_lem negatives cs = sym (sized_from_lem negatives (after_spaces (before_spaces cs)))

-- sizes that are the same have the same sign and the same digits
sized_same : {minus m : Bool} {size k : ℕ} → sized_is minus size ≡ sized_is m k → (m ≡ minus) × (size ≡ k)
sized_same {minus} {size = size} h =
    (sym (ap (λ (o : Option SignedSize). elim o [ Some x ↦ x.minus | None ↦ minus ]) h), ap (λ (o : Option SignedSize). elim o [ Some x ↦ x.size | None ↦ size ]) h)

-- without negatives there is no sign
sign_is : (t m : Bool) (g : Option ℕ) (k : ℕ) → with_sign t g ≡ sized_is m k → (m ≡ t) × (g ≡ Some k)
unfolding with_sign
sign_is t m (Some n) k h = ((sized_same h).0, ap Some (sized_same h).1)
sign_is t m None k h = absurd (let z : ◌≡◌ {A = ℕ} 0 1 = cc in omega arith)

no_sign_from : (cs : Bytes) (m : Bool) (k : ℕ) → sized_from false cs ≡ sized_is m k → m ≡ false
unfolding sized_from
no_sign_from [] m k h = (sized_same h).0
no_sign_from (b ∷ bs) m k h = (sign_is false m (size_in (b ∷ bs)) k h).0

no_sign : (cs : Bytes) (m : Bool) (k : ℕ) → sized_in false cs ≡ sized_is m k → m ≡ false
unfolding sized_in
no_sign cs m k h = no_sign_from (after_spaces (before_spaces cs)) m k h

-- ---- the range, asked of a size
pub number_sized : (least most : ℕ) (cs : Bytes) (s : Option SignedSize) (z : SignedSize) (r : Result ℕ NumberFault) → s ≡ sized_in false cs → s ≡ Some z → r ≡ ranged least most (is (pos z.size)) → r ≡ number_in least most cs
unfolding number_in integer_of
number_sized least most cs s z r e h w = w ∙ sym (rw (integer_of_lem false cs, sym e ∙ h, no_sign cs z.minus z.size (sym e ∙ h)))

pub number_malformed : (least most : ℕ) (cs : Bytes) (s : Option SignedSize) → s ≡ sized_in false cs → s ≡ None → Err NumberFault.Malformed ≡ number_in least most cs
unfolding number_in integer_of ranged
number_malformed least most cs s e h = sym (rw (integer_of_lem false cs, sym e ∙ h))

pub signed_sized : (below above : ℕ) (cs : Bytes) (s : Option SignedSize) (z : SignedSize) (r : Result ℤ NumberFault) → s ≡ sized_in true cs → s ≡ Some z → r ≡ signed_ranged below above (is (signed z.minus z.size)) → r ≡ signed_in below above cs
unfolding signed_in integer_of
signed_sized below above cs s z r e h w = w ∙ sym (rw (integer_of_lem true cs, sym e ∙ h))

pub signed_malformed : (below above : ℕ) (cs : Bytes) (s : Option SignedSize) → s ≡ sized_in true cs → s ≡ None → Err NumberFault.Malformed ≡ signed_in below above cs
unfolding signed_in integer_of signed_ranged
signed_malformed below above cs s e h = sym (rw (integer_of_lem true cs, sym e ∙ h))

-- ---- how large a size is
decimal_below : (ds : Bytes) (k : ℕ) → all_digits ds ≡ true → decimal_after k ds < (k + 1) * 10 ^ length ds
unfolding all_digits decimal_after
decimal_below [] k h = omega arith
decimal_below (d ∷ ds) k h =
    let a = and_true (is_digit d) (all_digits ds) h in
    let high : d ≤ 57 = leb-true d 57 (and_true (leb 48 d) (leb d 57) a.0).1 in
    let q : k * 10 + (d - 48) + 1 ≤ (k + 1) * 10 = omega arith in
    let le = mul-le-mul_right (10 ^ length ds) q in
    lt_of_lt_of_le (decimal_below ds (k * 10 + (d - 48)) a.1) (rw (pow-succ' 10 (length ds), ← mul_assoc (k + 1) 10 (10 ^ length ds)) le)

some_all : (ds : Bytes) → some_digits ds ≡ true → all_digits ds ≡ true
some_all [] h = absurd (let z : ◌≡◌ {A = ℕ} 0 1 = cc in omega arith)
some_all (d ∷ ds) h = h

size_below : (ds : Bytes) (k : ℕ) → size_in ds ≡ Some k → k < 10 ^ length ds
unfolding size_in
size_below ds k h = by (some_digits ds) refl h
  where
    by : (t : Bool) → some_digits ds ≡ t → cond t (Some (decimal_after 0 ds)) None ≡ Some k → k < 10 ^ length ds
    by true e h = let q : decimal_after 0 ds ≡ k = cc in omega (arith, decimal_below ds 0 (some_all ds e))
    by false e h = absurd (let z : ◌≡◌ {A = ℕ} 0 1 = cc in omega arith)

spaces_length : (cs : Bytes) → length (after_spaces cs) ≤ length cs
unfolding after_spaces
spaces_length [] = zero-le
spaces_length (b ∷ bs) = by (eqb b 32) (spaces_length bs)
  where
    by : (t : Bool) → length (after_spaces bs) ≤ length bs → length (cond t (after_spaces bs) (b ∷ bs)) ≤ suc (length bs)
    by true h = omega arith
    by false h = omega arith

shed_length : (cs : Bytes) → length (before_spaces cs) ≤ length cs
shed_length cs = let q = trailed cs in omega (arith, ap length q.parts, length-append (before_spaces cs) (spaces q.count))

-- digits among at most n bytes
some_below : (n : ℕ) (t m : Bool) (ds : Bytes) (k : ℕ) → length ds ≤ n → with_sign t (size_in ds) ≡ sized_is m k → k < 10 ^ n
some_below n t m ds k w h = omega (arith, size_below ds k (sign_is t m (size_in ds) k h).1, ten_mono {m = length ds} {n = n} w)

from_below : (negatives m : Bool) (cs : Bytes) (k : ℕ) → sized_from negatives cs ≡ sized_is m k → k < 10 ^ length cs
unfolding sized_from
from_below negatives m [] k h = let z : 0 ≡ k = (sized_same h).1 in omega arith
from_below negatives m (b ∷ bs) k h = by (negatives && eqb b 45) (negatives && eqb b 43) h
  where
    by : (s t : Bool) → cond s (with_sign true (size_in bs)) (cond t (with_sign false (size_in bs)) (with_sign false (size_in (b ∷ bs)))) ≡ sized_is m k → k < 10 ^ suc (length bs)
    by true t h = some_below (suc (length bs)) true m bs k (omega arith) h
    by false true h = some_below (suc (length bs)) false m bs k (omega arith) h
    by false false h = some_below (suc (length bs)) false m (b ∷ bs) k (omega arith) h

sized_below : (negatives m : Bool) (cs : Bytes) (k : ℕ) → sized_in negatives cs ≡ sized_is m k → k < 10 ^ length cs
unfolding sized_in
sized_below negatives m cs k h =
    let ds : Bytes = before_spaces cs in
    omega (arith, from_below negatives m (after_spaces ds) k h, ten_mono {m = length (after_spaces ds)} {n = length cs} (omega (arith, spaces_length ds, shed_length cs)))

-- the size of a field of at most nine columns
pub sized_small : (negatives : Bool) (l : Line) (i j : ℕ) (s : Option SignedSize) (z : SignedSize) → s ≡ sized_in negatives (columns l i j) → s ≡ Some z → j + 1 ≤ i + 9 → z.size < 1000000000
sized_small negatives l i j s z e h w =
    let b : z.size < 10 ^ length (columns l i j) = sized_below negatives z.minus (columns l i j) z.size (sym e ∙ h) in
    omega (arith, rw columns_length at b, ten_mono {m = suc j - i} {n = 9} (omega arith))

pub ruleset passing_laws = (passing_start, passing_next, passing_stop, passing_end)

pub ruleset counting_laws = (digits_none, counting_start, counting_low, counting_high, counting_next, counting_end, counting_times, counting_plus)

pub ruleset shedding_laws = (shedding_start, shedding_next, shedding_stop, shedding_end)

pub ruleset line_laws = (line_short, line_long)

pub ruleset sized_laws = (sized_blank, sized_signed, sized_plain, ink_left)

pub ruleset from_laws = (from_minus, from_plus, from_bare)

pub ruleset range_laws = (number_sized, number_malformed, signed_sized, signed_malformed, sized_small)

pub sign_case : (minus : Bool) (x y : Option ℕ) (k : ℕ) → x ≡ y → x ≡ Some k → sized_is minus k ≡ with_sign minus y
unfolding with_sign
sign_case minus x y k e h = sym (rw (sym e ∙ h))

pub sign_none : (minus : Bool) (x y : Option ℕ) → x ≡ y → x ≡ None → None ≡ with_sign minus y
unfolding with_sign
sign_none minus x y e h = sym (rw (sym e ∙ h))

-- ---- ranges
module _ (least most k : ℕ) where
  pub within_low : k < least → Err NumberFault.Outside ≡ ranged least most (is (pos k))
  unfolding ranged
  within_low h = sym (rw (lt-leb least k h))

  pub within_high : least ≤ k → most < k → Err NumberFault.Outside ≡ ranged least most (is (pos k))
  unfolding ranged
  within_high l h = sym (rw (le-leb least k l, lt-leb k most h))

  pub within_both : least ≤ k → k ≤ most → Ok k ≡ ranged least most (is (pos k))
  unfolding ranged
  within_both l h = sym (rw (le-leb least k l, le-leb k most h))

module _ (below above k : ℕ) where
  pub between_low : (m : Bool) → m ≡ true → below < k → Err NumberFault.Outside ≡ signed_ranged below above (is (signed m k))
  unfolding signed_ranged
  between_low m t h = rw t (by k h)
    where
      by : (n : ℕ) → below < n → Err NumberFault.Outside ≡ signed_ranged below above (is (neg_ℤ (pos n)))
      by zero h = absurd (omega arith)
      by (suc n) h = sym (rw (lt-leb (suc n) below h))

  pub between_high : (m : Bool) → m ≡ false → above < k → Err NumberFault.Outside ≡ signed_ranged below above (is (signed m k))
  unfolding signed_ranged
  between_high m t h = sym (rw (t, lt-leb k above h))

  pub between_minus : (m : Bool) (z : ℤ) → m ≡ true → k ≤ below → z ≡ signed true k → Ok z ≡ signed_ranged below above (is (signed m k))
  unfolding signed_ranged
  between_minus m z t h e = rw (t, e) (by k h)
    where
      by : (n : ℕ) → n ≤ below → Ok (neg_ℤ (pos n)) ≡ signed_ranged below above (is (neg_ℤ (pos n)))
      by zero h = sym (rw (le-leb 0 above (omega arith)))
      by (suc n) h = sym (rw (le-leb (suc n) below h))

  pub between_plain : (m : Bool) (z : ℤ) → m ≡ false → k ≤ above → z ≡ signed false k → Ok z ≡ signed_ranged below above (is (signed m k))
  unfolding signed_ranged
  between_plain m z t h e = rw (t, e) (sym (rw (le-leb k above h)))

-- ---- the usual field: spaces, then one digit or two
columns_three : (l : Line) (i : ℕ) → 1 ≤ i → i + 2 ≤ length l → columns l i (i + 2) ≡ get_or l (i - 1) 0 ∷ get_or l i 0 ∷ get_or l (i + 1) 0 ∷ []
unfolding columns_for
columns_three l i h n =
    let e : suc (i + 2) - i ≡ 3 = omega arith in
    let p : suc i - 1 ≡ i = omega arith in
    let q : suc (suc i) - 1 ≡ i + 1 = omega arith in
    rw (e, p, q, get_d_any l (i - 1) 32 0 (omega arith), get_d_any l i 32 0 (omega arith), get_d_any l (i + 1) 32 0 (omega arith))

pub short_none : (l : Line) (i : ℕ) → ShortNumber l i 100
unfolding ShortNumber
short_none l i h = absurd (omega arith)

one_digit : (c : ℕ) → 48 ≤ c → c ≤ 57 → Digits (c ∷ []) (c - 48)
unfolding decimal_after Each
one_digit c low high = record { some = omega arith; each = ((low, high), tt); number = omega arith }

two_digits : (b c : ℕ) → 48 ≤ b → b ≤ 57 → 48 ≤ c → c ≤ 57 → Digits (b ∷ c ∷ []) ((b - 48) * 10 + (c - 48))
unfolding decimal_after Each
two_digits b c low high low' high' = record { some = omega arith; each = ((low, high), ((low', high'), tt)); number = omega arith }

module _ (l : Line) (i : ℕ) (h : 1 ≤ i) (n : i + 2 ≤ length l) (a : get_or l (i - 1) 0 ≡ 32) (low : 48 ≤ get_or l (i + 1) 0) (high : get_or l (i + 1) 0 ≤ 57) where
  pub short_one : get_or l i 0 ≡ 32 → ShortNumber l i (get_or l (i + 1) 0 - 48)
  unfolding ShortNumber
  short_one b k negatives =
      let c : ℕ = get_or l (i + 1) 0 in
      rw (columns_three l i h n, a, b) (integer_read negatives (Integer.plain 2 (c ∷ []) 0 (c - 48) refl (one_digit c low high)))

  pub short_two : 48 ≤ get_or l i 0 → get_or l i 0 ≤ 57 → ShortNumber l i ((get_or l i 0 - 48) * 10 + (get_or l (i + 1) 0 - 48))
  unfolding ShortNumber
  short_two low' high' k negatives =
      let b : ℕ = get_or l i 0 in
      let c : ℕ = get_or l (i + 1) 0 in
      rw (columns_three l i h n, a) (integer_read negatives (Integer.plain 1 (b ∷ c ∷ []) 0 ((b - 48) * 10 + (c - 48)) refl (two_digits b c low' high' low high)))

pub short_times : (b : ℕ) → b ≤ 57 → Fits w32 ((b - 48) * 10)
short_times b h = record { fits = omega arith }

pub short_plus : (b c : ℕ) → b ≤ 57 → c ≤ 57 → Fits w32 ((b - 48) * 10 + (c - 48))
short_plus b c h k = record { fits = omega arith }

pub short_within : (least most : ℕ) (l : Line) (i j k : ℕ) (r : Result ℕ NumberFault) → ShortNumber l i k → k ≤ 99 → j ≡ i + 2 → r ≡ ranged least most (is (pos k)) → r ≡ number_in least most (columns l i j)
unfolding ShortNumber number_in
short_within least most l i j k r d h e w = w ∙ sym (rw (e, d h false))

pub short_between : (below above : ℕ) (l : Line) (i j k : ℕ) (r : Result ℤ NumberFault) → ShortNumber l i k → k ≤ 99 → j ≡ i + 2 → r ≡ signed_ranged below above (is (signed false k)) → r ≡ signed_in below above (columns l i j)
unfolding ShortNumber signed_in
short_between below above l i j k r d h e w = w ∙ sym (rw (e, d h true))

pub ruleset short_laws = (short_none, short_one, short_two, short_times, short_plus)

pub ruleset usual_laws = (short_within, short_between)

pub ruleset within_laws = (within_low, within_high, within_both)

pub ruleset between_laws = (between_low, between_high, between_minus, between_plain)

pub ruleset sign_laws = (sign_case, sign_none)

pub ruleset tests = (eq-eqb, ne_eqb, le-leb, lt-leb)
