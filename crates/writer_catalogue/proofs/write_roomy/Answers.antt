-- `writer_catalogue::write_roomy` meets its contract.
use borrow.Author.Rules.{rules}
use Rattle.reader_answer.specs.Rows.{rows_emptied}
use Rattle.writer_catalogue.proofs.write_roomy.Goals as goal

pub returns : goal.returns
returns c = record {
  value = search;
  room_after = search;
  atoms_after = search rows_emptied;
  bonds_after = search rows_emptied;
}
