-- Reading a record of a file into tables that have room: it can be written, and what it leaves of the tables.
use Rattle.std.specs.Prelude.{ℕ, ◌≤◌, ◌≡◌, refl, List, length, ℤ}
use Rattle.std.proofs.Common.{sym, ◌∙◌}
use Rattle.text.specs.Text.{Bytes}
use Rattle.rules.specs.Record.{atom_places, bond_places}
use Rattle.judge_file.specs.Place.{sdfile}
use Rattle.reader_walk.specs.Outcome.{refused, outcome_of}
use Rattle.reader_walk.specs.Walked.{walk_of, Beside}
use Rattle.reader_answer.specs.declared.RecordRead.{RecordRead}
use Rattle.reader_answer.specs.Read.{answered, read_as, RowsLeft}
use Rattle.reader_answer.specs.TablesRead.{enough}
use Rattle.reader_answer.specs.Rows.{RowsPromise}
use Rattle.writer_copy.specs.Bridge as B
use Rattle.writer_copy.specs.Bridge.{Front, walked_refused}

module _ (t : Bytes) (ta tb ta' tb' : List ℤ) (ra : atom_places ≤ length ta) (rb : bond_places ≤ length tb) (p : RowsPromise sdfile t ta tb ta' tb') where
  left : RowsLeft ta ta' tb tb' (outcome_of sdfile t)
  left = p.rows (record { atoms = ra; bonds = rb })

  pub read_atoms : Beside atom_places ta ta'
  read_atoms = left.atoms

  pub read_bonds : Beside bond_places tb tb'
  read_bonds = left.bonds

  module _ (r : RecordRead) (er : r ≡ read_as sdfile (length ta) (length tb) t) where
    walked : answered (walk_of sdfile t) ≡ r
    walked = enough sdfile t (length ta) (length tb) (answered (walk_of sdfile t)) ra rb refl ∙ sym er

    pub front : (n m chiral len k h a b : ℕ) → r ≡ RecordRead.Read n m chiral len k h a b → Front sdfile t ta' tb' n m chiral len k h a b
    front n m chiral len k h a b q = B.front sdfile t ta tb ta' tb' left n m chiral len k h a b (walked ∙ q)

    pub read_refused : (e i c : ℕ) → r ≡ RecordRead.Refused e i c → outcome_of sdfile t ≡ refused e i c
    unfolding walk_of
    read_refused e i c q = walked_refused sdfile t e i c (outcome_of sdfile t) (walked ∙ q)
