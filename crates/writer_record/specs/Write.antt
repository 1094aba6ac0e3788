-- What a writer does with tables, header lines and items: the canonical text of their record, or the first refusal; from that its answer, and what the
-- room then holds.
use Rattle.std.specs.Prelude.{Result, Ok, Err, ℕ, ◌*◌, ◌≤◌, Bool, true, false, ◌&&◌, List, ◌++◌, leb, length, drop, ℤ}
use Rattle.text.specs.Text.{Bytes}
use Rattle.text.specs.Written.{text}
use Rattle.rules.specs.Record.{Headers, Item, limit}
use Rattle.rules.specs.Meaning.{Reading}
use Rattle.rules.specs.Canon.{canon_lines}
use Rattle.writer_molecule.specs.Body.{reading_of}
use Rattle.judge_file.specs.Verdict.{Verdict, accepted, refused}
use Rattle.judge_parts.specs.Part.{headers_verdict, items_verdict}
use Rattle.writer_tables.specs.Tables.{writable_tables}
use Rattle.judge_file.specs.declared.TextRefusal.{TextRefusal}

-- what a writer is handed beside the room
pub record Given : Type 0 where
  pub atoms : List ℤ
  pub bonds : List ℤ
  pub n : ℕ
  pub m : ℕ
  pub chiral : ℕ
  pub headers : Bytes
  pub items : Bytes

-- both tables have room for as many atoms and bonds as a record may have
pub record Roomy (g : Given) : Type 0 where
  pub atoms : 16 * limit ≤ length g.atoms
  pub bonds : 6 * limit ≤ length g.bonds

-- the reading that it holds, with these header lines and items
abbrev pub handed : Given → Headers → List Item → Reading
handed g h is = reading_of h is g.n g.m g.chiral g.atoms g.bonds

abbrev pub canon_text : Reading → Bytes
canon_text x = text (canon_lines x)

-- ---- One test after the other

-- a test that names no line
abbrev pub demand : {A : Type 0} → Bool → ℕ → Verdict A → Verdict A
demand true e next = next
demand false e next = refused e 0 0

abbrev pub and_then : {A B : Type 0} → Verdict A → (A → Verdict B) → Verdict B
and_then (accepted a) next = next a
and_then (refused e line column) next = refused e line column

unfoldable pub roomy : List ℤ → List ℤ → Bool
roomy atoms bonds = leb (16 * limit) (length atoms) && leb (6 * limit) (length bonds)

-- the reading to be written: room of the tables, tables, header lines, items
unfoldable pub record_for : Given → Verdict Reading
record_for g =
    demand (roomy g.atoms g.bonds) 2
    (demand (writable_tables g.n g.m g.chiral g.atoms g.bonds) 21
    (and_then (headers_verdict g.headers) λ h. and_then (items_verdict g.items) λ is. accepted (handed g h is)))

-- its text, if room of k bytes is enough
unfoldable pub text_for : Given → ℕ → Verdict Bytes
text_for g k = and_then (record_for g) λ x. demand (leb (length (canon_text x)) k) 20 (accepted (canon_text x))

-- ---- The answer and the room

abbrev pub answer : Verdict Bytes → Result ℕ TextRefusal
answer (accepted bs) = Ok (length bs)
answer (refused e line column) = Err (record { no = e; line = line; column = column })

-- the text at the front and all else as it was; after a refusal, all as it was
abbrev pub room : Bytes → Verdict Bytes → Bytes
room r (accepted bs) = bs ++ drop (length bs) r
room r (refused e line column) = r

unfoldable pub write_of : Given → ℕ → Result ℕ TextRefusal
write_of g k = answer (text_for g k)

unfoldable pub room_after : Given → Bytes → Bytes
room_after g r = room r (text_for g (length r))
