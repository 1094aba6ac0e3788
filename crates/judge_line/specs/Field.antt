-- The fields of a line, each with the refusals it can give: 7 and 8 at the field's first column, 9 for a symbol, 15 for a column that is no space.
use Rattle.std.specs.Prelude.{Result, Ok, Err, Option, Some, None, ℕ, suc, ◌+◌, List, [], ◌∷◌, Bool, true, false, cond, ◌&&◌, eqb, leb, length, ℤ, pos, negsuc}
use Prim.Native.String.{String}
use Rattle.text.specs.Text.{Bytes, Line, bytes, byte}
use Rattle.text.specs.Columns.{column, columns}
use Rattle.text.specs.Find.{bad_column, ink_column, same_bytes}
use Rattle.field_numbers.specs.Read.{number_in, signed_in}
use Rattle.field_coordinates.specs.Read.{coordinate_in}
use Rattle.field_symbols.specs.Read.{symbol_in}
use Rattle.judge_line.specs.Got.{Got, got, bad, then, need}
use Rattle.field_numbers.specs.declared.NumberFault.{NumberFault}

abbrev pub number_got : ℕ → Result ℕ NumberFault → Got ℕ
number_got i (Ok k) = got k
number_got i (Err NumberFault.Malformed) = bad 7 i
number_got i (Err NumberFault.Outside) = bad 8 i

-- columns i to j hold a number from `least` to `most`
unfoldable pub number_at : Line → ℕ → ℕ → ℕ → ℕ → Got ℕ
number_at l i j least most = number_got i (number_in least most (columns l i j))

abbrev pub signed_got : ℕ → Result ℤ NumberFault → Got ℤ
signed_got i (Ok z) = got z
signed_got i (Err NumberFault.Malformed) = bad 7 i
signed_got i (Err NumberFault.Outside) = bad 8 i

-- columns i to j hold a number from minus `below` to `above`
unfoldable pub signed_at : Line → ℕ → ℕ → ℕ → ℕ → Got ℤ
signed_at l i j below above = signed_got i (signed_in below above (columns l i j))

unfoldable pub elem : ℕ → List ℕ → Bool
elem k [] = false
elem k (x ∷ xs) = cond (eqb k x) true (elem k xs)

-- columns i to j hold a number of the list, none of which is above `most`
unfoldable pub listed_at : Line → ℕ → ℕ → ℕ → List ℕ → Got ℕ
listed_at l i j most list = then (number_at l i j 0 most) (λ k. need (elem k list) 8 i (got k))

abbrev pub same_integer : ℤ → ℤ → Bool
same_integer (pos j) (pos k) = eqb j k
same_integer (pos j) (negsuc k) = false
same_integer (negsuc j) (pos k) = false
same_integer (negsuc j) (negsuc k) = eqb j k

unfoldable pub elem_signed : ℤ → List ℤ → Bool
elem_signed z [] = false
elem_signed z (x ∷ xs) = cond (same_integer z x) true (elem_signed z xs)

-- the same with negatives, none of them below minus `below`
unfoldable pub signed_listed_at : Line → ℕ → ℕ → ℕ → ℕ → List ℤ → Got ℤ
signed_listed_at l i j below above list = then (signed_at l i j below above) (λ z. need (elem_signed z list) 8 i (got z))

abbrev pub coordinate_got : ℕ → Option ℤ → Got ℤ
coordinate_got i (Some z) = got z
coordinate_got i None = bad 7 i

unfoldable pub coordinate_at : Line → ℕ → ℕ → Got ℤ
coordinate_at l i j = coordinate_got i (coordinate_in (columns l i j))

abbrev pub symbol_got : ℕ → Option ℕ → Got ℕ
symbol_got i (Some k) = got k
symbol_got i None = bad 9 i

unfoldable pub symbol_at : Line → ℕ → ℕ → Got ℕ
symbol_at l i j = symbol_got i (symbol_in (columns l i j))

-- column i is a space
unfoldable pub space_at : {A : Type 0} → Line → ℕ → Got A → Got A
space_at l i x = need (eqb (column l i) (byte " ")) 15 i x

abbrev pub none_found : {A : Type 0} → ℕ → Option ℕ → Got A → Got A
none_found e (Some i) x = bad e i
none_found e None x = x

-- column i and all after it are spaces
unfoldable pub spaces_from : {A : Type 0} → Line → ℕ → Got A → Got A
spaces_from l i x = none_found 15 (ink_column l i) x

-- whether columns i to j hold the text
abbrev pub has : Line → ℕ → ℕ → String → Bool
has l i j text = same_bytes (columns l i j) (bytes text)

-- so many columns at most, all of allowed bytes: 3 at the column after them, then 4
unfoldable pub within : {A : Type 0} → ℕ → Line → Got A → Got A
within longest l x = need (leb (length l) longest) 3 (suc longest) (none_found 4 (bad_column l) x)
