-- What a file cursor answers, and what both lent tables hold after it.
use Rattle.std.specs.Prelude.{ℕ, ◌+◌, ◌≤◌, ◌<◌, List, Bool, cond, ◌&&◌, ltb, leb, length, drop, ℤ}
use Rattle.text.specs.Text.{Bytes}
use Rattle.reader_cursor.specs.declared.Cursor.{Cursor}
use Rattle.reader_cursor.specs.Walk.{past}
use Rattle.reader_answer.specs.declared.RecordRead.{RecordRead}
use Rattle.reader_answer.specs.Read.{by_room, read_of, atoms_after, bonds_after}
use Rattle.reader_file.specs.declared.Next.{Next}

-- ---- Where a record may start

-- bytes are left, and a walk over the file may stand here: a line takes a byte or more, and a record a line or more
pub record Within (c : Cursor) (s : Bytes) : Type 0 where
  pub left : c.at < length s
  pub lines : c.lines ≤ c.at
  pub records : c.records ≤ c.lines

unfoldable pub within : Cursor → Bytes → Bool
within c s = ltb c.at (length s) && (leb c.lines c.at && leb c.records c.lines)

-- the record that starts there is read from the tail of the file; lines count from the file's start
abbrev pub next_by : Cursor → RecordRead → Next
next_by c (RecordRead.Read n m chiral bytes lines h a b) = Next.Record n m chiral bytes lines h a b (past c bytes lines)
next_by c (RecordRead.Refused e i column) = Next.Refused e (c.lines + i) column

unfoldable pub next_at : Cursor → ℕ → ℕ → Bytes → Next
next_at c la lb s = next_by c (read_of 1 la lb (drop c.at s))

unfoldable pub atoms_at : Cursor → ℕ → Bytes → List ℤ → List ℤ
atoms_at c lb s t = atoms_after 1 lb (drop c.at s) t

unfoldable pub bonds_at : Cursor → ℕ → Bytes → List ℤ → List ℤ
bonds_at c la s t = bonds_after 1 la (drop c.at s) t

-- ---- Any cursor; at the end no memory changes

unfoldable pub next_on : Cursor → ℕ → ℕ → Bytes → Next
next_on c la lb s = cond (within c s) (next_at c la lb s) Next.End

unfoldable pub atoms_on : Cursor → ℕ → Bytes → List ℤ → List ℤ
atoms_on c lb s t = cond (within c s) (atoms_at c lb s t) t

unfoldable pub bonds_on : Cursor → ℕ → Bytes → List ℤ → List ℤ
bonds_on c la s t = cond (within c s) (bonds_at c la s t) t

-- ---- Tables of any length

-- the answer, by the cursor, the lengths of both tables, and the file
unfoldable pub next_of : Cursor → ℕ → ℕ → Bytes → Next
next_of c la lb s = by_room la lb (Next.Refused 2 0 0) (next_on c la lb s)

-- the table of atoms that was t
unfoldable pub atoms_next : Cursor → ℕ → Bytes → List ℤ → List ℤ
atoms_next c lb s t = by_room (length t) lb t (atoms_on c lb s t)

-- the table of bonds that was t
unfoldable pub bonds_next : Cursor → ℕ → Bytes → List ℤ → List ℤ
bonds_next c la s t = by_room la (length t) t (bonds_on c la s t)
