-- `reader_record::read_front` meets its contract.
use Rattle.reader_answer.specs.Rows.{walked_laws}
use borrow.Author.Rules.{rules}
use Rattle.reader_record.proofs.read_front.Goals as goal

pub mean-requires : goal.mean-requires
mean-requires c = search walked_laws

pub returns-in-Whole : goal.returns-in-Whole
returns-in-Whole c = record {
  read_value = search walked_laws;
  asked_value = search walked_laws;
  rows_left = search walked_laws;
  rows_marked = search walked_laws;
}

pub returns-in-Refused : goal.returns-in-Refused
returns-in-Refused c = record {
  read_value = search walked_laws;
  asked_value = search walked_laws;
  rows_left = search walked_laws;
  rows_marked = search walked_laws;
}
