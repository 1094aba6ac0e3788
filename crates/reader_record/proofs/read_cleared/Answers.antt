-- `reader_record::read_cleared` meets its contract.
use Rattle.reader_answer.specs.Rows.{cleared_laws}
use borrow.Author.Rules.{rules}
use Rattle.reader_record.proofs.read_cleared.Goals as goal

pub clear_after-requires : goal.clear_after-requires
clear_after-requires c = search cleared_laws

pub returns : goal.returns
returns c = record {
  read_value = search cleared_laws;
  asked_value = search cleared_laws;
  atoms_after = search cleared_laws;
  bonds_after = search cleared_laws;
  rows_marked = search cleared_laws;
}
