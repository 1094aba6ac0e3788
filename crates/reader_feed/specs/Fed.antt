-- What the counter answers to a part of the input: what the walk over it comes to, after what was counted before.
use Rattle.std.specs.Prelude.{ℕ, ◌+◌, ◌-◌, ◌^◌, Bool, cond, ltb, length}
use Rattle.text.specs.Text.{Bytes}
use Rattle.text.specs.Cut.{cut}
use Rattle.rules.specs.Record.{limit}
use Rattle.judge_file.specs.One.{One, one_record}
use Rattle.judge_file.specs.WalkText.{after_lines}
use Rattle.reader_cursor.specs.declared.Cursor.{Cursor}
use Rattle.reader_cursor.specs.Walk.{Walk, over, short, stopped, file_walk}
use Rattle.reader_feed.specs.declared.Counter.{Counter}
use Rattle.reader_feed.specs.declared.Fed.{Fed}

-- ---- Counts

unfoldable pub most : ℕ
most = 2 ^ 64 - 1

-- a sum that stops at the greatest count
unfoldable pub plus_of : ℕ → ℕ → ℕ
plus_of a b = cond (ltb (most - a) b) most (a + b)

abbrev pub begun : Counter
begun = record { records = 0; lines = 0 }

-- after the records of the part that the cursor has passed
unfoldable pub counted : Counter → Cursor → Counter
counted c d = record { records = plus_of c.records d.records; lines = plus_of c.lines d.lines }

-- ---- A part of so many bytes

-- more input follows, and the first so many bytes are used
unfoldable pub wait_of : Counter → ℕ → ℕ → ℕ → Fed
wait_of c used len room = cond (ltb 0 used) (Fed.More c used) (cond (ltb len room) (Fed.More c used) (Fed.TooLong (plus_of c.records 1)))

-- the part ends within the record at the cursor, at its line i
unfoldable pub short_of : Bool → ℕ → ℕ → Counter → Cursor → ℕ → Fed
short_of ended room len c d i = cond ended (Fed.Refused 19 (plus_of c.lines i) 1) (wait_of (counted c d) d.at len room)

-- all bytes are used
unfoldable pub end_of : Bool → ℕ → ℕ → Counter → ℕ → Fed
end_of ended room len c used = cond ended (Fed.Accepted c.records) (wait_of c used len room)

-- what the walk over the part comes to, after what was counted before it
abbrev pub fed_by : Bool → ℕ → ℕ → Counter → Walk → Fed
fed_by ended room len c (over xs d) = end_of ended room len (counted c d) d.at
fed_by ended room len c (short xs d i) = short_of ended room len c d i
fed_by ended room len c (stopped xs d e i column) = Fed.Refused e (plus_of c.lines i) column

unfoldable pub fed_of : Counter → Bytes → Bool → ℕ → Fed
fed_of c part ended room = fed_by ended room (length part) c (file_walk part)

-- ---- The record at the front of some bytes

-- its bytes and lines, or number, line and column of its refusal, or the line at which the bytes end
pub data Piece : Type 0 where
  Whole : ℕ → ℕ → Piece
  Refused : ℕ → ℕ → ℕ → Piece
  Short : ℕ → Piece

abbrev pub piece_by : Bytes → One → Piece
piece_by t (One.whole x k rest) = Piece.Whole (after_lines t 0 k) k
piece_by t (One.refused e k column) = Piece.Refused e k column
piece_by t (One.short k) = Piece.Short k

unfoldable pub piece_of : Bytes → Piece
piece_of t = piece_by t (one_record limit (cut t).lines)
