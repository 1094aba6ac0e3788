-- How an integer field is read from left to right. `Number` has the rule; `Agree` proves that they say the same.
use Rattle.std.specs.Prelude.{Result, Ok, Err, ℕ, suc, [], ◌∷◌, Bool, true, false, cond, ◌&&◌, eqb, leb, ℤ, pos, negsuc, neg_ℤ}
use Rattle.text.specs.Text.{Bytes, byte}
use Rattle.field_numbers.specs.Number.{decimal_after}
use Rattle.field_numbers.specs.declared.NumberFault.{NumberFault}

-- the number of an integer field, or none
pub data IntegerRead : Type 0 where
  is : ℤ → IntegerRead
  malformed : IntegerRead

abbrev pub is_digit : ℕ → Bool
is_digit b = leb (byte "0") b && leb b (byte "9")

unfoldable pub all_digits : Bytes → Bool
all_digits [] = true
all_digits (b ∷ bs) = is_digit b && all_digits bs

abbrev pub some_digits : Bytes → Bool
some_digits [] = false
some_digits (b ∷ bs) = all_digits (b ∷ bs)

-- what follows the leading spaces
unfoldable pub after_spaces : Bytes → Bytes
after_spaces [] = []
after_spaces (b ∷ bs) = cond (eqb b (byte " ")) (after_spaces bs) (b ∷ bs)

-- a byte before others: a space before none is none
abbrev pub before : ℕ → Bytes → Bytes
before b [] = cond (eqb b (byte " ")) [] (b ∷ [])
before b (c ∷ cs) = b ∷ c ∷ cs

-- what stands before the trailing spaces
unfoldable pub before_spaces : Bytes → Bytes
before_spaces [] = []
before_spaces (b ∷ bs) = before b (before_spaces bs)

abbrev pub signed : Bool → ℕ → ℤ
signed true k = neg_ℤ (pos k)
signed false k = pos k

-- digits and nothing else, with a sign read before them
unfoldable pub digits_read : Bool → Bytes → IntegerRead
digits_read minus ds = cond (some_digits ds) (is (signed minus (decimal_after 0 ds))) malformed

-- a field without the spaces on both sides
unfoldable pub after_blank : Bool → Bytes → IntegerRead
after_blank negatives [] = is (pos 0)
after_blank negatives (b ∷ bs) =
    cond (negatives && eqb b (byte "-")) (digits_read true bs)
    (cond (negatives && eqb b (byte "+")) (digits_read false bs) (digits_read false (b ∷ bs)))

unfoldable pub integer_in : Bool → Bytes → IntegerRead
integer_in negatives cs = after_blank negatives (after_spaces (before_spaces cs))

-- a number from `least` to `most`
unfoldable pub ranged : ℕ → ℕ → IntegerRead → Result ℕ NumberFault
ranged least most (is (pos k)) = cond (leb least k && leb k most) (Ok k) (Err NumberFault.Outside)
ranged least most (is (negsuc k)) = Err NumberFault.Outside
ranged least most malformed = Err NumberFault.Malformed

unfoldable pub number_in : ℕ → ℕ → Bytes → Result ℕ NumberFault
number_in least most cs = ranged least most (integer_in false cs)

-- whether z is from minus `below` to `above`
abbrev pub is_between : ℕ → ℕ → ℤ → Bool
is_between below above (pos k) = leb k above
is_between below above (negsuc k) = leb (suc k) below

-- a number from minus `below` to `above`
unfoldable pub signed_ranged : ℕ → ℕ → IntegerRead → Result ℤ NumberFault
signed_ranged below above (is z) = cond (is_between below above z) (Ok z) (Err NumberFault.Outside)
signed_ranged below above malformed = Err NumberFault.Malformed

unfoldable pub signed_in : ℕ → ℕ → Bytes → Result ℤ NumberFault
signed_in below above cs = signed_ranged below above (integer_in true cs)
