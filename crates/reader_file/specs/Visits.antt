-- From the start of a file a cursor visits exactly the records that the rules give, one after the other, and ends as the check answers.
use Rattle.std.specs.Prelude.{ℕ, ◌≡◌, List, [], ◌∷◌, length, drop, ℤ}
use Rattle.text.specs.Text.{Bytes}
use Rattle.rules.specs.Record.{Raw, GoodSDfile, atom_places, bond_places}
use Rattle.rules.specs.Meaning.{meaning}
use Rattle.reader_tables.specs.Row.{flat}
use Rattle.judge_file.specs.Place.{sdfile}
use Rattle.judge_file.specs.Verdict.{Verdict}
use Rattle.reader_walk.specs.Checking.{said_of}
use Rattle.reader_cursor.specs.declared.Cursor.{Cursor}
use Rattle.reader_cursor.specs.Walk.{fresh, past}
use Rattle.reader_answer.specs.Read.{rows_in}
use Rattle.reader_answer.specs.Promise.{Reply, Told}
use Rattle.reader_file.specs.Next.{next_of, atoms_next, bonds_next}
use Rattle.reader_file.specs.Promise.{Said, found, end, refused, numbers_of}

-- the answers that give no cursor
abbrev pub Last : Said → Type 0
Last (found w d) = ⊥
Last end = Unit {0}
Last (refused e i column) = Unit {0}

-- tables of these lengths are lent
module _ (la lb : ℕ) (s : Bytes) where
  -- record x starts at cursor c: it is told of, its rows stand in the tables, and d is the cursor past it
  pub record Visit (c : Cursor) (x : Raw) (d : Cursor) : Type 0 where
    pub reply : Reply
    pub told : Told sdfile (drop c.at s) x reply
    pub moved : d ≡ past c reply.bytes reply.lines
    pub answer : numbers_of (next_of c la lb s) ≡ found reply d
    pub atoms : (t : List ℤ) → length t ≡ la → atoms_next c lb s t ≡ rows_in atom_places t (flat (meaning x).atoms)
    pub bonds : (t : List ℤ) → length t ≡ lb → bonds_next c la s t ≡ rows_in bond_places t (flat (meaning x).bonds)

  -- the records visited from a cursor on, the cursor after them, and the answer that gives no further cursor
  pub data Visits : Cursor → List Raw → Cursor → Said → Type 0 where
    stop : {c : Cursor} {r : Said} → numbers_of (next_of c la lb s) ≡ r → Last r → Visits c [] c r
    more : {c d e : Cursor} {x : Raw} {xs : List Raw} {r : Said} → Visit c x d → Visits d xs e r → Visits c (x ∷ xs) e r

  -- at the end: these are the file's records, as many as the check counts, and their bytes are all its bytes; a refusal is the check's
  abbrev pub Ends : List Raw → Cursor → Said → Type 0
  Ends xs d (found w e) = ⊥
  Ends xs d end = GoodSDfile s xs × (said_of sdfile s ≡ Verdict.accepted d.records) × (d.records ≡ length xs) × (d.at ≡ length s)
  Ends xs d (refused e i column) = said_of sdfile s ≡ Verdict.refused e i column

  pub record Visited : Type 0 where
    pub records : List Raw
    pub last : Cursor
    pub answer : Said
    pub visits : Visits fresh records last answer
    pub ends : Ends records last answer
