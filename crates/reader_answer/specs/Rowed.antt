-- A reading with lent rows: what it answers, what tables and rows hold after it, and what it promises in the words of the rules.
use Rattle.std.specs.Prelude.{ℕ, ◌≤◌, ◌<◌, ◌≡◌, List, [], Bool, cond, ltb, length, drop, ℤ}
use Rattle.text.specs.Text.{Bytes, Line, Lines}
use Rattle.rules.specs.Forms.{Bond}
use Rattle.rules.specs.Record.{Raw}
use Rattle.judge_file.specs.Place.{FileKind}
use Rattle.judge_file.specs.Verdict.{Verdict, refused}
use Rattle.reader_pairs.specs.Keys.{keys_of}
use Rattle.reader_rows.specs.Says.{row_places, Says, emptied}
use Rattle.reader_rows.specs.Marked.{marked}
use Rattle.reader_walk.specs.Asked.{rows_asked, Came}
use Rattle.reader_walk.specs.Outcome.{Outcome, whole, outcome_of}
use Rattle.reader_walk.specs.Outcome as O
use Rattle.reader_walk.specs.Walked.{walk_of}
use Rattle.reader_answer.specs.declared.Counted.{Counted}
use Rattle.reader_answer.specs.declared.RecordRead.{RecordRead}
use Rattle.reader_answer.specs.Read.{answered, atoms_by, bonds_by, by_room, by_kind}
use Rattle.reader_answer.specs.Promise.{Reply, numbers_of, Begins, Roomy, Reads, Untouched, kind_number}

-- ---- The answer and all memory after it

pub record After : Type 0 where
  pub read : RecordRead
  pub asked : ℕ  -- rows
  pub atoms : List ℤ
  pub bonds : List ℤ
  pub rows : List ℕ

abbrev pub after : Counted → List ℤ → List ℤ → List ℕ → After
after r ta tb ws = record { read = r.read; asked = r.asked; atoms = ta; bonds = tb; rows = ws }

-- a refusal that changes no memory
abbrev pub kept : ℕ → List ℤ → List ℤ → List ℕ → After
kept e ta tb ws = record { read = RecordRead.Refused e 0 0; asked = 0; atoms = ta; bonds = tb; rows = ws }

-- rows that were read stay; after a refusal they say nothing
unfoldable pub settled : RecordRead → List ℕ → List ℕ
settled (RecordRead.Read n m chiral len k h a b) ws = ws
settled (RecordRead.Refused e i column) ws = emptied ws

-- the keys of the record's bonds; none after a refusal
abbrev pub bond_keys : Outcome → List ℕ
bond_keys (whole x k) = keys_of x.molecule.bonds
bond_keys (O.refused e i column) = []

unfoldable pub rows_by : List ℕ → Outcome → List ℕ
rows_by ws o = marked (emptied ws) (bond_keys o)

-- tables and rows with room
unfoldable pub read_with : FileKind → Bytes → List ℤ → List ℤ → List ℕ → After
read_with kind s ta tb ws =
    record {
      read = answered (walk_of kind s);
      asked = rows_asked kind s;
      atoms = atoms_by ta (outcome_of kind s);
      bonds = bonds_by tb (outcome_of kind s);
      rows = rows_by ws (outcome_of kind s);
    }

-- of any length: 35 comes after 2
unfoldable pub rowed_as : FileKind → Bytes → List ℤ → List ℤ → List ℕ → After
rowed_as kind s ta tb ws = by_room (length ta) (length tb) (kept 2 ta tb ws) (cond (ltb (length ws) row_places) (kept 35 ta tb ws) (read_with kind s ta tb ws))

-- any kind
unfoldable pub rowed_of : ℕ → Bytes → List ℤ → List ℤ → List ℕ → After
rowed_of kind s ta tb ws = by_kind kind (kept 1 ta tb ws) (λ (k : FileKind). rowed_as k s ta tb ws)

-- ---- The promise

-- line i is refused: a row for each of the bonds that had come to the check there
pub record Until (kind : FileKind) (s : Bytes) (i q : ℕ) : Type 0 where
  pub ls : List Line
  pub rest : Bytes
  pub lines : Lines s ls rest
  pub bonds : List Bond
  pub came : Came kind ls i bonds
  pub count : q ≡ length bonds

-- an accepted record: a row for each of its bonds
pub record Asks (kind : FileKind) (s : Bytes) (r : Verdict Reply) (q : ℕ) : Type 0 where
  pub accepts : (x : Raw) → Begins kind s x → q ≡ length x.molecule.bonds
  pub refuses : (e i column : ℕ) → r ≡ refused e i column → Until kind s i q

-- rows that were ws say the record's pairs, or nothing after a refusal; past the rows of the limit nothing changes
pub record RowsSay (kind : FileKind) (s : Bytes) (ws : List ℕ) (r : Verdict Reply) (ws' : List ℕ) : Type 0 where
  pub size : length ws' ≡ length ws
  pub past : drop row_places ws' ≡ drop row_places ws
  pub says : (x : Raw) → Begins kind s x → Says ws' x.molecule.bonds
  pub empty : (e i column : ℕ) → r ≡ refused e i column → ws' ≡ emptied ws

abbrev pub Kept : ℕ → List ℤ → List ℤ → List ℕ → After → Type 0
Kept e ta tb ws y = Untouched e ta tb (numbers_of y.read) y.atoms y.bonds × (y.rows ≡ ws) × (y.asked ≡ 0)

-- tables and rows were ta, tb and ws
pub record RowedPromise (kind : ℕ) (s : Bytes) (ta tb : List ℤ) (ws : List ℕ) (y : After) : Type 0 where
  pub other_kind : 2 ≤ kind → Kept 1 ta tb ws y
  pub no_room : kind ≤ 1 → ¬ Roomy ta tb → Kept 2 ta tb ws y
  pub no_rows : kind ≤ 1 → Roomy ta tb → length ws < row_places → Kept 35 ta tb ws y
  pub reads : (k : FileKind) → kind ≡ kind_number k → Roomy ta tb → row_places ≤ length ws →
      Reads k s ta tb (numbers_of y.read) y.atoms y.bonds × RowsSay k s ws (numbers_of y.read) y.rows × Asks k s (numbers_of y.read) y.asked
