-- What is written of a number is read as that number, at any width that holds it.
use Rattle.std.specs.Prelude.{Ok, ℕ, zero, suc, ◌+◌, ◌-◌, ◌*◌, ◌/◌, ◌%◌, ◌^◌, ◌≤◌, ◌<◌, ◌≡◌, refl, Bool, true, false, [], ◌∷◌, ◌++◌, ltb, length, ℤ, pos, negsuc, neg_ℤ}
use Rattle.std.proofs.Common.{pow-suc, arith, sym, ap, ◌∙◌, append_assoc, append-nil, length-append, ltb-true, ltb-false, le-leb}
use Rattle.text.specs.Text.{Bytes, Each}
use Rattle.text.specs.Columns.{spaces, Allowed}
use Rattle.field_numbers.specs.Number.{Digit, Digits, Integer, Between, decimal_after}
use Rattle.field_numbers.specs.Read.{ranged, number_in, signed_ranged, signed_in}
use Rattle.field_numbers.specs.Agree.{integer_read, between_is}
use Rattle.field_numbers.specs.Write.{text_by, sized_text, number_text, signed_text, Fitting}

-- ---- exactly so many columns
pub text_length : (w : ℕ) (more minus : Bool) (k : ℕ) → length (text_by w more minus k) ≡ w
unfolding text_by
text_length zero more minus k = refl
text_length (suc w) true minus k = length-append (text_by w (ltb 9 k) minus (k / 10)) _ ∙ omega (arith, text_length w (ltb 9 k) minus (k / 10))
text_length (suc w) false true k = length-append (text_by w false false k) _ ∙ omega (arith, text_length w false false k)
text_length (suc w) false false k = length-append (text_by w false false k) _ ∙ omega (arith, text_length w false false k)

pub number_length : (w k : ℕ) → length (number_text w k) ≡ w
number_length w k = text_length w true false k

pub signed_length : (w : ℕ) (z : ℤ) → length (signed_text w z) ≡ w
signed_length w (pos k) = text_length w true false k
signed_length w (negsuc k) = text_length w true true (suc k)

-- ---- of allowed bytes
each_snoc : (P : ℕ → Type 0) (bs : Bytes) (b : ℕ) → Each P bs → P b → Each P (bs ++ (b ∷ []))
unfolding Each
each_snoc P [] b h p = (p, tt)
each_snoc P (x ∷ bs) b h p = (h.0, each_snoc P bs b h.1 p)

pub text_allowed : (w : ℕ) (more minus : Bool) (k : ℕ) → Each Allowed (text_by w more minus k)
unfolding text_by Each
text_allowed zero more minus k = tt
text_allowed (suc w) true minus k = each_snoc Allowed (text_by w (ltb 9 k) minus (k / 10)) (48 + k % 10) (text_allowed w (ltb 9 k) minus (k / 10)) (omega arith)
text_allowed (suc w) false true k = each_snoc Allowed (text_by w false false k) 45 (text_allowed w false false k) (omega arith)
text_allowed (suc w) false false k = each_snoc Allowed (text_by w false false k) 32 (text_allowed w false false k) (omega arith)

pub number_allowed : (w k : ℕ) → Each Allowed (number_text w k)
number_allowed w k = text_allowed w true false k

pub signed_allowed : (w : ℕ) (z : ℤ) → Each Allowed (signed_text w z)
signed_allowed w (pos k) = text_allowed w true false k
signed_allowed w (negsuc k) = text_allowed w true true (suc k)

-- ---- its digits
decimal_snoc : (n : ℕ) (ds : Bytes) (d : ℕ) → decimal_after n (ds ++ (d ∷ [])) ≡ decimal_after n ds * 10 + (d - 48)
unfolding decimal_after
decimal_snoc n [] d = refl
decimal_snoc n (x ∷ ds) d = decimal_snoc (n * 10 + (x - 48)) ds d

digits_one : (k : ℕ) → k ≤ 9 → Digits ((48 + k % 10) ∷ []) k
unfolding decimal_after Each
digits_one k h = record { some = omega arith; each = (omega arith, tt); number = omega arith }

digits_snoc : (ds : Bytes) (k : ℕ) → Digits ds (k / 10) → Digits (ds ++ ((48 + k % 10) ∷ [])) k
digits_snoc ds k h = record {
  some = omega (arith, length-append ds ((48 + k % 10) ∷ []));
  each = each_snoc Digit ds (48 + k % 10) h.each (omega arith);
  number = omega (arith, h.number, decimal_snoc 0 ds (48 + k % 10));
}

-- ---- the columns before the digits
abbrev pub sign : Bool → Bytes
sign true = 45 ∷ []
sign false = []

-- w columns and one for the `-`
abbrev pub room : Bool → ℕ → ℕ
room true w = suc w
room false w = w

room_suc : (m : Bool) (w : ℕ) → room m (suc w) ≡ suc (room m w)
room_suc true w = refl
room_suc false w = refl

spaces_snoc : (w : ℕ) → ◌≡◌ {A = Bytes} (spaces w ++ (32 ∷ [])) (spaces (suc w))
spaces_snoc zero = refl
spaces_snoc (suc w) = ap (λ (l : Bytes). 32 ∷ l) (spaces_snoc w)

spaces_text : (w k : ℕ) → text_by w false false k ≡ spaces w
unfolding text_by
spaces_text zero k = refl
spaces_text (suc w) k = rw (spaces_text w k) (spaces_snoc w)

lead : (m : Bool) (w k : ℕ) → text_by (room m w) false m k ≡ spaces w ++ sign m
unfolding text_by
lead true w k = rw (spaces_text w k)
lead false w k = spaces_text w k ∙ sym (append-nil _)

-- ---- the shape of what is written: spaces, a `-` or none, and digits up to the last column, which is narrower than what is read
pub record Shape (m : Bool) (cs : Bytes) (k : ℕ) : Type 0 where
  pub count : ℕ
  pub ds : Bytes
  pub parts : cs ≡ spaces count ++ (sign m ++ ds)
  pub digits : Digits ds k

shape_one : (m : Bool) (w k : ℕ) → k ≤ 9 → Shape m (text_by (room m w) false m (k / 10) ++ ((48 + k % 10) ∷ [])) k
shape_one m w k h = record {
  count = w;
  ds = (48 + k % 10) ∷ [];
  parts = ap (λ (l : Bytes). l ++ ((48 + k % 10) ∷ [])) (lead m w (k / 10)) ∙ append_assoc (spaces w) (sign m) _;
  digits = digits_one k h;
}

shape_more : (m : Bool) (cs : Bytes) (k : ℕ) → Shape m cs (k / 10) → Shape m (cs ++ ((48 + k % 10) ∷ [])) k
shape_more m cs k s = record {
  count = s.count;
  ds = s.ds ++ ((48 + k % 10) ∷ []);
  parts = ap (λ (l : Bytes). l ++ ((48 + k % 10) ∷ [])) s.parts
      ∙ append_assoc (spaces s.count) _ _
      ∙ ap (λ (l : Bytes). spaces s.count ++ l) (append_assoc (sign m) _ _);
  digits = digits_snoc s.ds k s.digits;
}

shape_by : (t m : Bool) (w k : ℕ) → ltb 9 k ≡ t → (9 < k → Shape m (text_by (room m w) true m (k / 10)) (k / 10)) → Shape m (text_by (room m w) t m (k / 10) ++ ((48 + k % 10) ∷ [])) k
shape_by true m w k e more = shape_more m (text_by (room m w) true m (k / 10)) k (more (ltb-true 9 k e))
shape_by false m w k e more = shape_one m w k (ltb-false 9 k e)

pub shape : (m : Bool) (w k : ℕ) → k < 10 ^ suc w → Shape m (text_by (room m (suc w)) true m k) k
unfolding text_by
shape m zero k h = rw (room_suc m 0) (shape_by (ltb 9 k) m 0 k refl (λ l. absurd (omega arith)))
shape m (suc w) k h =
    let e : 10 ^ suc (suc w) ≡ 10 ^ suc w * 10 = pow-suc 10 (suc w) in
    rw (room_suc m (suc w)) (shape_by (ltb 9 k) m (suc w) k refl (λ l. shape m w (k / 10) (omega arith)))

-- ---- what is written is what the rule says of that number
no_tail : (front ds : Bytes) → front ++ ds ≡ front ++ (ds ++ spaces 0)
no_tail front ds = ap (λ (l : Bytes). front ++ l) (sym (append-nil ds))

pub number_back : (negatives : Bool) (w k : ℕ) → k < 10 ^ w → Integer negatives (number_text w k) (pos k)
unfolding text_by
number_back negatives zero k h = let e : k ≡ 0 = omega arith in rw e (Integer.blank 0 refl)
number_back negatives (suc w) k h = let s = shape false w k h in Integer.plain s.count s.ds 0 k (s.parts ∙ no_tail (spaces s.count) s.ds) s.digits

negative_back : (w k : ℕ) → k < 10 ^ suc w → Integer true (sized_text (suc (suc w)) true k) (neg_ℤ (pos k))
negative_back w k h =
    let s = shape true w k h in
    Integer.minus s.count s.ds 0 k refl (s.parts ∙ no_tail (spaces s.count) (45 ∷ s.ds)) s.digits

pub signed_back : (w : ℕ) (z : ℤ) → Fitting w z → Integer true (signed_text w z) z
signed_back w (pos k) h = number_back true w k h
signed_back zero (negsuc k) h = let l : suc k < 1 = h in absurd (omega arith)
signed_back (suc zero) (negsuc k) h = let l : suc k < 1 = h in absurd (omega arith)
signed_back (suc (suc w)) (negsuc k) h = let e : suc (suc w) - 1 ≡ suc w = omega arith in negative_back w (suc k) (rw e at h)

-- ---- and is read as that number
pub number_written : (w least most k : ℕ) → k < 10 ^ w → least ≤ k → k ≤ most → number_in least most (number_text w k) ≡ Ok k
unfolding number_in ranged
number_written w least most k h low high = rw (integer_read false (number_back false w k h), le-leb least k low, le-leb k most high)

pub signed_written : (w below above : ℕ) (z : ℤ) → Fitting w z → Between below above z → signed_in below above (signed_text w z) ≡ Ok z
unfolding signed_in signed_ranged
signed_written w below above z h b = rw (integer_read true (signed_back w z h), between_is below above z b)
