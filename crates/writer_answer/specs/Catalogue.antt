-- What a catalogue writer does with a file: the canonical text of its records, or the first refusal; from that its answer, and what the room and the work
-- tables then hold.
use Rattle.std.specs.Prelude.{ℕ, ◌+◌, List, [], ◌++◌, map, cond, leb, length, drop, ℤ}
use Rattle.text.specs.Text.{Bytes}
use Rattle.text.specs.Written.{text}
use Rattle.rules.specs.Record.{Raw, limit, atom_places, bond_places}
use Rattle.rules.specs.Meaning.{meaning}
use Rattle.rules.specs.Canon.{canon_file}
use Rattle.judge_file.specs.Place.{sdfile}
use Rattle.judge_file.specs.Verdict.{Verdict, accepted, refused, verdict}
use Rattle.reader_answer.specs.Read.{rows_in}
use Rattle.writer_record.specs.Write.{demand, and_then, roomy}
use Rattle.writer_answer.specs.declared.Catalogue.{Catalogue}

-- the text that is written for these records
unfoldable pub catalogue_text : List Raw → Bytes
catalogue_text xs = text (canon_file (map meaning xs))

-- ---- One test after the other

-- the records of a file, if room of k bytes holds their text
abbrev pub fitting : ℕ → Verdict (List Raw) → Verdict (List Raw)
fitting k v = and_then v λ xs. demand (leb (length (catalogue_text xs)) k) 20 (accepted xs)

-- the file, then the room
unfoldable pub file_for : Bytes → ℕ → Verdict (List Raw)
file_for s k = fitting k (verdict sdfile limit s)

-- before them the work tables
unfoldable pub catalogue_for : List ℤ → List ℤ → Bytes → ℕ → Verdict (List Raw)
catalogue_for ta tb s k = demand (roomy ta tb) 2 (file_for s k)

-- ---- The answer, the room, the work tables

abbrev pub answer_by : Verdict (List Raw) → Catalogue
answer_by (accepted xs) = Catalogue.Done (length (catalogue_text xs)) (length xs)
answer_by (refused e line column) = Catalogue.Refused e line column

-- the text at the front and all else as it was; after a refusal, all as it was
abbrev pub room_by : Bytes → Verdict (List Raw) → Bytes
room_by r (accepted xs) = catalogue_text xs ++ drop (length (catalogue_text xs)) r
room_by r (refused e line column) = r

unfoldable pub catalogue_of : List ℤ → List ℤ → Bytes → ℕ → Catalogue
catalogue_of ta tb s k = answer_by (catalogue_for ta tb s k)

unfoldable pub room_after : List ℤ → List ℤ → Bytes → Bytes → Bytes
room_after ta tb s r = room_by r (catalogue_for ta tb s (length r))

-- no row is left, and memory beyond the limit is as it was; tables without room are left as they are
unfoldable pub atoms_after : List ℤ → List ℤ → List ℤ
atoms_after ta tb = cond (roomy ta tb) (rows_in atom_places ta []) ta

unfoldable pub bonds_after : List ℤ → List ℤ → List ℤ
bonds_after ta tb = cond (roomy ta tb) (rows_in bond_places tb []) tb

-- ---- While lengths are summed

-- a length, as far as room of k bytes goes; what is longer is one more than the room
unfoldable pub up_to : ℕ → ℕ → ℕ
up_to k n = cond (leb n k) n (k + 1)
