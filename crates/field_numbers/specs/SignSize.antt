-- The reading of an integer field as the code makes it: sign and size first, the range after. `integer_of_lem` ties it to `Read`.
use Rattle.std.specs.Prelude.{Option, Some, None, ℕ, ◌+◌, ◌≤◌, ◌<◌, ◌≡◌, [], ◌∷◌, Bool, true, false, cond, ◌&&◌, eqb, pos, length}
use Rattle.text.specs.Text.{Bytes, Line, byte}
use Rattle.text.specs.Columns.{columns}
use Rattle.field_numbers.specs.Number.{decimal_after}
use Rattle.field_numbers.specs.Read.{IntegerRead, is, malformed, all_digits, some_digits, after_spaces, before_spaces, signed, integer_in}
use Rattle.field_numbers.specs.declared.SignedSize.{SignedSize}

-- digits and nothing else, after digits that stand for k
unfoldable pub size_after : ℕ → Bytes → Option ℕ
size_after k ds = cond (all_digits ds) (Some (decimal_after k ds)) None

-- one digit or more, and nothing else
unfoldable pub size_in : Bytes → Option ℕ
size_in ds = cond (some_digits ds) (Some (decimal_after 0 ds)) None

-- a number with its sign, or without one
abbrev pub sized_is : Bool → ℕ → Option SignedSize
sized_is minus size = Some (record { minus = minus; size = size })

unfoldable pub with_sign : Bool → Option ℕ → Option SignedSize
with_sign minus (Some k) = sized_is minus k
with_sign minus None = None

-- a field without the spaces on both sides
unfoldable pub sized_from : Bool → Bytes → Option SignedSize
sized_from negatives [] = sized_is false 0
sized_from negatives (b ∷ bs) =
    cond (negatives && eqb b (byte "-")) (with_sign true (size_in bs))
    (cond (negatives && eqb b (byte "+")) (with_sign false (size_in bs)) (with_sign false (size_in (b ∷ bs))))

unfoldable pub sized_in : Bool → Bytes → Option SignedSize
sized_in negatives cs = sized_from negatives (after_spaces (before_spaces cs))

unfoldable pub integer_of : Option SignedSize → IntegerRead
integer_of (Some sized) = is (signed sized.minus sized.size)
integer_of None = malformed

-- columns from r on that come before column e are past the end of the line
unfoldable pub LineEnd : Line → ℕ → ℕ → Type 0
LineEnd l e r = r < e → length l < r

-- a number k found in columns i to i + 2 is what they hold, whether or not the range has negatives; 100 says nothing
unfoldable pub ShortNumber : Line → ℕ → ℕ → Type 0
ShortNumber l i k = k ≤ 99 → (negatives : Bool) → integer_in negatives (columns l i (i + 2)) ≡ is (pos k)
