-- The walk over an SDfile's records, each read from the tail where it starts: which records are read, where the cursor then stands, and what ends the walk.
use Rattle.std.specs.Prelude.{ℕ, zero, suc, ◌+◌, ◌-◌, ◌<◌, ◌^◌, List, [], ◌∷◌, ◌++◌, cond, eqb}
use Rattle.text.specs.Text.{Bytes}
use Rattle.text.specs.Cut.{cut}
use Rattle.rules.specs.Record.{Raw, limit}
use Rattle.judge_file.specs.One.{One, one_record}
use Rattle.judge_file.specs.Verdict.{Verdict}
use Rattle.judge_file.specs.WalkText.{after_lines}
use Rattle.reader_cursor.specs.declared.Cursor.{Cursor}
use Rattle.reader_cursor.specs.declared.Ended.{Ended}

-- ---- The cursor

-- before the first record of a file
abbrev pub fresh : Cursor
fresh = record { at = 0; lines = 0; records = 0 }

-- past a record of so many bytes and lines
abbrev pub past : Cursor → ℕ → ℕ → Cursor
past c bytes lines = record { at = c.at + bytes; lines = c.lines + lines; records = c.records + 1 }

-- its numbers fit a word
pub record Countable (c : Cursor) (n k : ℕ) : Type 0 where
  pub at : c.at + n < 2 ^ 64
  pub lines : c.lines + k < 2 ^ 64
  pub records : c.records + 1 < 2 ^ 64

-- ---- The walk

-- these records are read, and the cursor stands after them
pub data Walk : Type 0 where
  over : List Raw → Cursor → Walk  -- nothing follows
  short : List Raw → Cursor → ℕ → Walk  -- the text ends within the next record, before this line
  stopped : List Raw → Cursor → ℕ → ℕ → ℕ → Walk  -- the next record is refused: number, line, column

-- `skip` bytes more belong to the last record read
unfoldable pub walk_from : List Raw → Cursor → ℕ → Bytes → Walk
walk_from xs c skip [] = over xs c
walk_from xs c (suc skip) (b ∷ t) = walk_from xs c skip t
walk_from xs c zero (b ∷ t) = elim (one_record limit (cut (b ∷ t)).lines) [
  | One.whole x k rest ↦ walk_from (xs ++ (x ∷ [])) (past c (after_lines (b ∷ t) 0 k) k) (after_lines (b ∷ t) 0 k - 1) t
  | One.refused e k column ↦ stopped xs c e (c.lines + k) column
  | One.short k ↦ short xs c (c.lines + k)
]

unfoldable pub file_walk : Bytes → Walk
file_walk s = walk_from [] fresh 0 s

-- ---- What is said of it

abbrev pub records_of : Walk → List Raw
records_of (over xs c) = xs
records_of (short xs c i) = xs
records_of (stopped xs c e i column) = xs

abbrev pub cursor_of : Walk → Cursor
cursor_of (over xs c) = c
cursor_of (short xs c i) = c
cursor_of (stopped xs c e i column) = c

abbrev pub ended_by : Walk → Ended
ended_by (over xs c) = Ended.Over c
ended_by (short xs c i) = Ended.Short c i
ended_by (stopped xs c e i column) = Ended.Refused e i column

abbrev pub verdict_by : Walk → Verdict (List Raw)
verdict_by (over xs c) = Verdict.accepted xs
verdict_by (short xs c i) = Verdict.refused 19 i 1
verdict_by (stopped xs c e i column) = Verdict.refused e i column

-- a refusal of the record at the cursor: 19 is given where the text ends
unfoldable pub stop_at : Cursor → ℕ → ℕ → ℕ → Ended
stop_at c e k column = cond (eqb e 19) (Ended.Short c (c.lines + k)) (Ended.Refused e (c.lines + k) column)
