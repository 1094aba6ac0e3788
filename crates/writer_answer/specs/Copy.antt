-- What copying a record does: its canonical text, or the first refusal; from that the answer, and what the room then holds. The tables are then as reading
-- the record leaves them.
use Rattle.std.specs.Prelude.{ℕ, ◌++◌, cond, leb, length, drop}
use Rattle.text.specs.Text.{Bytes}
use Rattle.rules.specs.Record.{Raw}
use Rattle.rules.specs.Meaning.{meaning}
use Rattle.judge_file.specs.Place.{FileKind}
use Rattle.judge_file.specs.WalkText.{after_lines}
use Rattle.reader_walk.specs.Outcome.{Outcome, whole, refused, outcome_of}
use Rattle.reader_answer.specs.Read.{by_room, by_kind}
use Rattle.writer_record.specs.Write.{canon_text}
use Rattle.writer_answer.specs.declared.Copied.{Copied}

-- the text that is written for a record
abbrev pub text_of : Raw → Bytes
text_of x = canon_text (meaning x)

-- ---- One test after the other

-- a record, if room of k bytes holds its text
abbrev pub fitting : ℕ → Outcome → Outcome
fitting k (whole x j) = cond (leb (length (text_of x)) k) (whole x j) (refused 20 0 0)
fitting k (refused e i c) = refused e i c

-- the kind, both tables, the record, then the room
unfoldable pub copy_for : ℕ → ℕ → ℕ → Bytes → ℕ → Outcome
copy_for kind la lb s k = by_kind kind (refused 1 0 0) (λ (f : FileKind). by_room la lb (refused 2 0 0) (fitting k (outcome_of f s)))

-- ---- The answer and the room

abbrev pub answer_by : Bytes → Outcome → Copied
answer_by s (whole x j) = Copied.Done (after_lines s 0 j) j (length (text_of x))
answer_by s (refused e i c) = Copied.Refused e i c

-- the text at the front and all else as it was; after a refusal, all as it was
abbrev pub room_by : Bytes → Outcome → Bytes
room_by r (whole x j) = text_of x ++ drop (length (text_of x)) r
room_by r (refused e i c) = r

-- the answer, by the kind, the lengths of both tables, the text and the length of the room
unfoldable pub copy_of : ℕ → ℕ → ℕ → Bytes → ℕ → Copied
copy_of kind la lb s k = answer_by s (copy_for kind la lb s k)

-- the room that was r
unfoldable pub room_after : ℕ → ℕ → ℕ → Bytes → Bytes → Bytes
room_after kind la lb s r = room_by r (copy_for kind la lb s (length r))
