-- How a number is written: right-aligned in so many columns, without leading zeros, a `-` right before the digits of a negative.
use Rattle.std.specs.Prelude.{ℕ, zero, suc, ◌+◌, ◌-◌, ◌/◌, ◌%◌, ◌^◌, ◌<◌, [], ◌∷◌, ◌++◌, Bool, true, false, ltb, ℤ, pos, negsuc}
use Rattle.text.specs.Text.{Bytes, byte}

-- these columns, filled from the last one on: the digits of k while `more` of them are to come, then the `-` if there is one, then spaces
unfoldable pub text_by : ℕ → Bool → Bool → ℕ → Bytes
text_by zero more minus k = []
text_by (suc width) true minus k = text_by width (ltb 9 k) minus (k / 10) ++ ((byte "0" + k % 10) ∷ [])
text_by (suc width) false true k = text_by width false false k ++ (byte "-" ∷ [])
text_by (suc width) false false k = text_by width false false k ++ (byte " " ∷ [])

-- the digits of k, with a `-` or without
abbrev pub sized_text : ℕ → Bool → ℕ → Bytes
sized_text width minus k = text_by width true minus k

abbrev pub number_text : ℕ → ℕ → Bytes
number_text width k = sized_text width false k

abbrev pub signed_text : ℕ → ℤ → Bytes
signed_text width (pos k) = sized_text width false k
signed_text width (negsuc k) = sized_text width true (suc k)

-- the column of a digit that is not written where it is zero
abbrev pub first_digit : ℕ → ℕ
first_digit zero = byte " "
first_digit (suc k) = byte "0" + suc k

-- so many columns are enough for z: its `-` takes one
abbrev pub Fitting : ℕ → ℤ → Type 0
Fitting width (pos k) = k < 10 ^ width
Fitting width (negsuc k) = suc k < 10 ^ (width - 1)
