-- What a search or a test finds: the line at a position, the first byte that is not allowed, the first column that is no space, a blank line, a text in columns.
use Rattle.std.specs.Prelude.{Option, Some, None, ℕ, suc, ◌+◌, ◌-◌, List, [], ◌∷◌, Bool, true, false, cond, ◌&&◌, ◌||◌, not, eqb, ltb, length, get_or, drop}
use Rattle.text.specs.Text.{Bytes, Line, LF, CR, byte}
use Rattle.text.specs.Columns.{columns_for}
use Rattle.text.specs.declared.LineAt.{LineAt}
use Rattle.text.specs.declared.LineAt.TheVariants.{Line as LineTo, Unfinished}

-- the place of the first byte that passes the test, where the first byte of the list has place i
unfoldable pub first_from : (ℕ → Bool) → ℕ → Bytes → Option ℕ
first_from p i [] = None
first_from p i (b ∷ bs) = cond (p b) (Some i) (first_from p (suc i) bs)

abbrev pub is_lf : ℕ → Bool
is_lf b = eqb b LF

abbrev pub is_bad : ℕ → Bool
is_bad b = ltb b 32 || ltb 126 b

abbrev pub is_ink : ℕ → Bool
is_ink b = not (eqb b (byte " "))

-- the column of the first byte that is not allowed
unfoldable pub bad_column : Line → Option ℕ
bad_column l = first_from is_bad 1 l

-- the first column from column i on that is no space
unfoldable pub ink_column : Line → ℕ → Option ℕ
ink_column l i = first_from is_ink i (drop (i - 1) l)

-- the line that starts at position `at` and has its LF at position k: one CR before the LF is dropped
unfoldable pub line_to : Bytes → ℕ → Option ℕ → LineAt
line_to s at (Some k) = LineTo (cond (ltb at k && eqb (get_or s (k - 1) 0) CR) (k - 1) k) (k + 1)
line_to s at None = Unfinished

-- the line that starts at position `at` of a text
unfoldable pub line_at : Bytes → ℕ → LineAt
line_at s at = line_to s at (first_from is_lf at (drop at s))

-- whether the line is empty or spaces only
unfoldable pub is_blank : Line → Bool
is_blank [] = true
is_blank (b ∷ l) = eqb b (byte " ") && is_blank l

unfoldable pub same_bytes : Bytes → Bytes → Bool
same_bytes [] [] = true
same_bytes [] (c ∷ cs) = false
same_bytes (b ∷ bs) [] = false
same_bytes (b ∷ bs) (c ∷ cs) = eqb b c && same_bytes bs cs

-- whether the columns from column i on are this text
unfoldable pub has_text : Line → ℕ → Bytes → Bool
has_text l i text = same_bytes (columns_for l i (length text)) text
