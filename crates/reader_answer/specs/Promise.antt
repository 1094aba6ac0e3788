-- What reading a record promises, in the words of the rules: when it accepts, what the answer then says and what the tables hold, and what each refusal means.
-- For every text, and whatever the tables held, there is one answer and one table of each kind after it.
use Rattle.std.specs.Prelude.{ℕ, ◌*◌, ◌≤◌, ◌≡◌, ◌↔◌, List, [], ◌∷◌, length, ℤ}
use Rattle.text.specs.Text.{Bytes, Line, Lines}
use Rattle.rules.specs.Record.{Raw, limit, Parts1to5, Molfile, Record, GoodMolfile, atom_places, bond_places}
use Rattle.rules.specs.Meaning.{meaning}
use Rattle.rules.specs.Canon.{ItemPart}
use Rattle.reader_tables.specs.Row.{flat}
use Rattle.judge_file.specs.Place.{FileKind, molfile, sdfile}
use Rattle.judge_file.specs.Verdict.{Verdict, accepted, refused}
use Rattle.judge_refusals.specs.NoRecord.{NoRecord}
use Rattle.reader_walk.specs.Promise.{RefusedAt}
use Rattle.reader_answer.specs.declared.RecordRead.{RecordRead}
use Rattle.reader_answer.specs.Read.{rows_in}
use Rattle.reader_answer.specs.Stretch.{Stretch}

-- ---- What an answer says

-- an accepted reading: counts, the bytes and lines that the record takes, where its header lines end, and where its items begin and end
pub record Reply : Type 0 where
  pub n : ℕ
  pub m : ℕ
  pub chiral : ℕ
  pub bytes : ℕ
  pub lines : ℕ
  pub header_end : ℕ
  pub items_start_lem : ℕ
  pub items_end_lem : ℕ

abbrev pub numbers_of : RecordRead → Verdict Reply
numbers_of (RecordRead.Read n m chiral bytes lines h a b) =
    accepted (record { n = n; m = m; chiral = chiral; bytes = bytes; lines = lines; header_end = h; items_start_lem = a; items_end_lem = b })
numbers_of (RecordRead.Refused e i column) = refused e i column

-- ---- A record at the front of a text

-- a molfile is all of the text; of an SDfile anything may follow the record's `$$$$` line
abbrev pub Begins : FileKind → Bytes → Raw → Type 0
Begins molfile s x = GoodMolfile s x
Begins sdfile s x = (ls : List Line) × (rest : Bytes) × (more : List Line) × Lines s ls rest × Record limit ls x more

-- these lines are the record, and no line is left
abbrev pub Own : FileKind → List Line → Raw → Type 0
Own molfile ls x = Molfile limit ls x
Own sdfile ls x = Record limit ls x []

-- what is said of record x at the front of a text: no items are an empty stretch right after `M  END`
pub record Told (kind : FileKind) (s : Bytes) (x : Raw) (w : Reply) : Type 0 where
  pub n : w.n ≡ x.molecule.counts.atoms
  pub m : w.m ≡ x.molecule.counts.bonds
  pub chiral : w.chiral ≡ x.molecule.counts.chiral
  pub own : (ls : List Line) × Stretch s 0 w.bytes ls × Own kind ls x × (w.lines ≡ length ls)
  pub headers : Stretch s 0 w.header_end (x.molecule.headers.first ∷ x.molecule.headers.second ∷ x.molecule.headers.third ∷ [])
  pub molecule : (ls : List Line) × Stretch s 0 w.items_start_lem ls × Parts1to5 limit ls x.molecule []
  pub items : (ls : List Line) × Stretch s w.items_start_lem w.items_end_lem ls × ItemPart ls x.items

-- ---- A refusal

-- a molfile is refused as the check refuses it; of an SDfile one record is asked for
abbrev pub Refusal : FileKind → Bytes → ℕ → ℕ → ℕ → Type 0
Refusal molfile s e i column = RefusedAt molfile s e i column
Refusal sdfile s e i column = NoRecord s e i column

-- ---- The promise

-- both tables have room for as many atoms and bonds as a record may have
pub record Roomy (ta tb : List ℤ) : Type 0 where
  pub atoms : 16 * limit ≤ length ta
  pub bonds : 6 * limit ≤ length tb

-- tables with room: rows of the record's reading, then zeros, and past the room for the limit what was there; after a refusal no rows
pub record Reads (kind : FileKind) (s : Bytes) (ta tb : List ℤ) (r : Verdict Reply) (ta' tb' : List ℤ) : Type 0 where
  pub accepts : (w : Reply) → (r ≡ accepted w) ↔ ((x : Raw) × Begins kind s x × Told kind s x w)
  pub rows : (x : Raw) → Begins kind s x → (ta' ≡ rows_in atom_places ta (flat (meaning x).atoms)) × (tb' ≡ rows_in bond_places tb (flat (meaning x).bonds))
  pub refuses : (e i column : ℕ) → r ≡ refused e i column → Refusal kind s e i column × (ta' ≡ rows_in atom_places ta []) × (tb' ≡ rows_in bond_places tb [])

-- a refusal without a line: no memory changes
abbrev pub Untouched : ℕ → List ℤ → List ℤ → Verdict Reply → List ℤ → List ℤ → Type 0
Untouched e ta tb r ta' tb' = (r ≡ refused e 0 0) × (ta' ≡ ta) × (tb' ≡ tb)

abbrev pub kind_number : FileKind → ℕ
kind_number molfile = 0
kind_number sdfile = 1

-- the tables were ta and tb, r is the answer, and they are then ta' and tb'
pub record ReadPromise (kind : ℕ) (s : Bytes) (ta tb : List ℤ) (r : RecordRead) (ta' tb' : List ℤ) : Type 0 where
  pub other_kind : 2 ≤ kind → Untouched 1 ta tb (numbers_of r) ta' tb'
  pub no_room : kind ≤ 1 → ¬ Roomy ta tb → Untouched 2 ta tb (numbers_of r) ta' tb'
  pub reads : (k : FileKind) → kind ≡ kind_number k → Roomy ta tb → Reads k s ta tb (numbers_of r) ta' tb'
