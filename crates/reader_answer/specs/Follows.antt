-- What stands behind a record, or behind a refused line, changes neither the answer nor the tables.
use Rattle.std.specs.Prelude.{ℕ, ◌≤◌, ◌≡◌, refl, List, [], ℤ}
use Rattle.std.proofs.Common.{sym}
use Rattle.text.specs.Text.{Bytes}
use Rattle.text.specs.Cut.{cut, split}
use Rattle.rules.specs.Record.{atom_places, bond_places}
use Rattle.judge_file.specs.Place.{sdfile}
use Rattle.judge_file.specs.One.{one_from, one_record}
use Rattle.reader_walk.specs.Outcome.{outcome_of}
use Rattle.reader_walk.specs.Walked.{walk_of}
use Rattle.reader_answer.specs.declared.RecordRead.{RecordRead}
use Rattle.reader_answer.specs.Read.{answered, read_of, atoms_after, bonds_after}
use Rattle.reader_answer.specs.TablesRead.{enough}

-- both texts are read alike, into any tables
pub record Alike (s t : Bytes) : Type 0 where
  pub answer : (la lb : ℕ) → read_of 1 la lb t ≡ read_of 1 la lb s
  pub atoms : (lb : ℕ) (ta : List ℤ) → atoms_after 1 lb t ta ≡ atoms_after 1 lb s ta
  pub bonds : (la : ℕ) (tb : List ℤ) → bonds_after 1 la t tb ≡ bonds_after 1 la s tb

-- ---- Behind a refused line

-- no bytes at all are cut short at line 1
pub no_bytes : (la lb : ℕ) → atom_places ≤ la → bond_places ≤ lb → read_of 1 la lb [] ≡ RecordRead.Refused 19 1 1
unfolding read_of walk_of outcome_of one_record one_from cut split answered
no_bytes la lb a b = sym (enough sdfile [] la lb (RecordRead.Refused 19 1 1) a b refl)
