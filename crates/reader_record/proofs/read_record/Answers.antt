-- `reader_record::read_record` meets its contract.
use Rattle.reader_answer.proofs.RowedHolds.{rowed_kind_laws}
use borrow.Author.Rules.{rules}
use Rattle.reader_record.proofs.read_record.Goals as goal

pub returns-then-kind-eq0 : goal.returns-then-kind-eq0
returns-then-kind-eq0 c = record {
  rows_after = search rowed_kind_laws;
  rowed_promise = search rowed_kind_laws;
}

pub returns-then-kind-eq1 : goal.returns-then-kind-eq1
returns-then-kind-eq1 c = record {
  rows_after = search rowed_kind_laws;
  rowed_promise = search rowed_kind_laws;
}

pub returns : goal.returns
returns c = record {
  rows_after = search rowed_kind_laws;
  rowed_promise = search rowed_kind_laws;
}
