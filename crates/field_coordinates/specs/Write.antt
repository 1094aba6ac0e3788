-- How a coordinate is written: in ten columns, the digits before the point right-aligned without leading zeros, at least one of them.
use Rattle.std.specs.Prelude.{ℕ, suc, ◌+◌, ◌/◌, ◌%◌, [], ◌∷◌, ◌++◌, Bool, true, false, ℤ, pos, negsuc}
use Rattle.text.specs.Text.{Bytes, bytes, byte}
use Rattle.field_numbers.specs.Write.{sized_text}

abbrev pub last_digit : ℕ → ℕ
last_digit k = byte "0" + k % 10

-- the column before the digits
abbrev pub sign_column : Bool → ℕ
sign_column true = byte "-"
sign_column false = byte " "

-- the point and the last four digits of k
abbrev pub after_point : ℕ → Bytes
after_point k = bytes "." ++ (last_digit (k / 1000) ∷ last_digit (k / 100) ∷ last_digit (k / 10) ∷ last_digit k ∷ [])

-- k ten-thousandths, with a `-` right before the digits or without
unfoldable pub point_text : Bool → ℕ → Bytes
point_text minus k = sized_text 5 minus (k / 10000) ++ after_point k

-- a `-` for negatives only, so that zero has none
abbrev pub coordinate_text : ℤ → Bytes
coordinate_text (pos k) = point_text false k
coordinate_text (negsuc k) = point_text true (suc k)
