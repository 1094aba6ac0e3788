-- What a reading answers, and what both lent tables hold after it.
use Rattle.std.specs.Prelude.{ℕ, zero, suc, ◌≤◌, List, [], Bool, cond, ltb, length, ℤ}
use Rattle.text.specs.Text.{Bytes}
use Rattle.rules.specs.Record.{limit, atom_places, bond_places}
use Rattle.rules.specs.Meaning.{meaning}
use Rattle.reader_tables.specs.Row.{flat, Holds}
use Rattle.reader_tables.specs.Filled.{cleared, filled}
use Rattle.judge_file.specs.Place.{FileKind, molfile, sdfile}
use Rattle.reader_end.specs.declared.Walked.{Walked}
use Rattle.reader_walk.specs.Outcome.{Outcome, whole, refused, outcome_of}
use Rattle.reader_walk.specs.Walked.{walk_of, Beside}
use Rattle.reader_answer.specs.declared.RecordRead.{RecordRead}

-- ---- Tables with room

-- both are kept shut, for they compute as far as the limit
unfoldable pub zeroed : List ℤ → ℕ → ℕ → List ℤ
zeroed t from to = cleared t from to

unfoldable pub rows_in : ℕ → List ℤ → List ℤ → List ℤ
rows_in cap t vs = filled cap t vs

unfoldable pub answered : Walked → RecordRead
answered (Walked.Whole c len k h a b) = RecordRead.Read c.atoms c.bonds c.chiral len k h a b
answered (Walked.Refused e i column) = RecordRead.Refused e i column

-- the rows of the record as the rules read it; none after a refusal
abbrev pub atom_rows : Outcome → List ℤ
atom_rows (whole x k) = flat (meaning x).atoms
atom_rows (refused e i column) = []

abbrev pub bond_rows_of : Outcome → List ℤ
bond_rows_of (whole x k) = flat (meaning x).bonds
bond_rows_of (refused e i column) = []

-- rows, zeros up to the limit, and what stood there before
unfoldable pub atoms_by : List ℤ → Outcome → List ℤ
atoms_by t o = rows_in atom_places t (atom_rows o)

unfoldable pub bonds_by : List ℤ → Outcome → List ℤ
bonds_by t o = rows_in bond_places t (bond_rows_of o)

-- ---- Rows without zeros behind them

-- tables that were ta₀ and tb₀ begin with the record's rows; what follows these up to the limit is anything, and past it nothing changed
pub record RowsLeft (ta₀ ta tb₀ tb : List ℤ) (o : Outcome) : Type 0 where
  pub atoms : Beside atom_places ta₀ ta
  pub bonds : Beside bond_places tb₀ tb
  pub atom_rows_lem : Holds ta (atom_rows o)
  pub bond_rows_lem : Holds tb (bond_rows_of o)

-- how many rows an answer tells of
abbrev pub atoms_read : RecordRead → ℕ
atoms_read (RecordRead.Read n m chiral len k h a b) = n
atoms_read (RecordRead.Refused e i column) = 0

abbrev pub bonds_read : RecordRead → ℕ
bonds_read (RecordRead.Read n m chiral len k h a b) = m
bonds_read (RecordRead.Refused e i column) = 0

-- these are within the limit, and the tables have room up to it
pub record Clearing (r : RecordRead) (ta tb : List ℤ) : Type 0 where
  pub few_atoms : atoms_read r ≤ limit
  pub few_bonds : bonds_read r ≤ limit
  pub atom_room : atom_places ≤ length ta
  pub bond_room : bond_places ≤ length tb

-- ---- Tables of any length

-- room for as many atoms and bonds as a record may have
abbrev pub by_room : {A : Type 0} → ℕ → ℕ → A → A → A
by_room la lb short enough = cond (ltb la atom_places) short (cond (ltb lb bond_places) short enough)

unfoldable pub read_as : FileKind → ℕ → ℕ → Bytes → RecordRead
read_as kind la lb s = by_room la lb (RecordRead.Refused 2 0 0) (answered (walk_of kind s))

unfoldable pub atoms_as : FileKind → ℕ → Bytes → List ℤ → List ℤ
atoms_as kind lb s t = by_room (length t) lb t (atoms_by t (outcome_of kind s))

unfoldable pub bonds_as : FileKind → ℕ → Bytes → List ℤ → List ℤ
bonds_as kind la s t = by_room la (length t) t (bonds_by t (outcome_of kind s))

-- ---- Any kind: 0 is a molfile, 1 an SDfile

abbrev pub by_kind : {A : Type 0} → ℕ → A → (FileKind → A) → A
by_kind zero other f = f molfile
by_kind (suc zero) other f = f sdfile
by_kind (suc (suc kind)) other f = other

-- the answer, by the kind, the lengths of both tables, and the text
unfoldable pub read_of : ℕ → ℕ → ℕ → Bytes → RecordRead
read_of kind la lb s = by_kind kind (RecordRead.Refused 1 0 0) (λ (k : FileKind). read_as k la lb s)

-- the table of atoms that was t
unfoldable pub atoms_after : ℕ → ℕ → Bytes → List ℤ → List ℤ
atoms_after kind lb s t = by_kind kind t (λ (k : FileKind). atoms_as k lb s t)

-- the table of bonds that was t
unfoldable pub bonds_after : ℕ → ℕ → Bytes → List ℤ → List ℤ
bonds_after kind la s t = by_kind kind t (λ (k : FileKind). bonds_as k la s t)
