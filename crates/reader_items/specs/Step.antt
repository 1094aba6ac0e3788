-- A step over the items of a record: the item whose data header starts at a position of a text, with the positions of its name and of its value lines, or the
-- end of the record, or a refusal. Lines count from the one at that position.
use Rattle.std.specs.Prelude.{Result, Ok, Err, Option, Some, None, ℕ, suc, ◌+◌, ◌-◌, List, [], ◌∷◌, length, take, drop}
use Rattle.text.specs.Text.{Bytes, Line}
use Rattle.text.specs.Find.{line_at, ink_column}
use Rattle.text.specs.Cut.{cut}
use Rattle.text.specs.declared.LineAt.{LineAt}
use Rattle.judge_line.specs.Got.{Got, got, bad, then}
use Rattle.judge_line.specs.Field.{within}
use Rattle.judge_line.specs.Judge.{ItemOrEnd, title, close, item_of, ValueOrBlank, value, blank, value_of}
use Rattle.line_text.specs.declared.ItemLine.{ItemLine}
use Rattle.judge_line.specs.declared.Refusal.{Refusal}
use Rattle.judge_file.specs.WalkText.{after_lines}
use Rattle.reader_item.specs.Find.{from_of, to_of}
use Rattle.reader_items.specs.declared.ItemAt.{ItemAt}
use Rattle.reader_items.specs.declared.ValuesAt.{ValuesAt}

-- ---- One line

-- at its place a line's length is judged, then its bytes, then what it is
abbrev pub title_is : Line → Got ItemOrEnd
title_is l = then (within 80 l (got l)) item_of

abbrev pub value_is : Line → Got ValueOrBlank
value_is l = then (within 200 l (got l)) value_of

-- the name starts behind `<`, the first byte after `>` that is no space
abbrev pub name_start : Option ℕ → ℕ
name_start (Some k) = k
name_start None = 0

abbrev pub title_by : ℕ → ℕ → Result ItemLine Refusal
title_by from size = Ok (ItemLine.Title from (from + size))

unfoldable pub title_of : Line → Got ItemOrEnd → Result ItemLine Refusal
title_of l (got (title name)) = title_by (name_start (ink_column l 2)) (length name)
title_of l (got close) = Ok ItemLine.Close
title_of l (bad e column) = Err (record { no = e; column = column })

-- ---- The value lines of an item

pub data Ran : Type 0 where
  over : ℕ → Ran  -- so many value lines, and then the blank line
  stopped : ℕ → ℕ → ℕ → Ran  -- number, line, column

-- k value lines have been passed; the data header before them is line 1
unfoldable pub values_run : ℕ → List Line → Ran
values_run k [] = stopped 19 (k + 2) 1
values_run k (l ∷ ls) = elim (value_is l) [
  | got v ↦ elim v [ value ↦ values_run (suc k) ls | blank ↦ over k ]
  | bad e column ↦ stopped e (k + 2) column
]

abbrev pub values_by : Bytes → ℕ → Ran → ValuesAt
values_by s at (over k) = ValuesAt.Over (from_of at k) (to_of s at k) (after_lines s at (suc k)) (k + 2)
values_by s at (stopped e i column) = ValuesAt.Refused e i column

-- the value lines that start at `at`
unfoldable pub values_from : Bytes → ℕ → ValuesAt
values_from s at = values_by s at (values_run 0 (cut (drop at s)).lines)

-- ---- The step

unfoldable pub with_values : ℕ → ℕ → ValuesAt → ItemAt
with_values a b (ValuesAt.Over from to n k) = ItemAt.Item a b from to n k
with_values a b (ValuesAt.Refused e i column) = ItemAt.Refused e i column

-- the line at `at`, by what it is; the next line starts at n
unfoldable pub titled : Bytes → ℕ → ℕ → Result ItemLine Refusal → ItemAt
titled s at n (Ok (ItemLine.Title a b)) = with_values (at + a) (at + b) (values_from s n)
titled s at n (Ok ItemLine.Close) = ItemAt.End n
titled s at n (Err r) = ItemAt.Refused r.no 1 r.column

abbrev pub step_to : Bytes → ℕ → LineAt → ItemAt
step_to s at (LineAt.Line e n) = titled s at n (title_of (take (e - at) (drop at s)) (title_is (take (e - at) (drop at s))))
step_to s at LineAt.Unfinished = ItemAt.Refused 19 1 1

-- the step from a position; past the end of the text there is no line
unfoldable pub step_of : Bytes → ℕ → ItemAt
step_of s at = step_to s at (line_at s at)
