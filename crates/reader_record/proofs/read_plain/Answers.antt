-- `reader_record::read_plain` meets its contract.
use Rattle.reader_answer.proofs.Promised.{promise_laws}
use Rattle.reader_answer.proofs.TablesRead.{kind_laws}
use borrow.Author.Rules.{rules}
use Rattle.reader_record.proofs.read_plain.Goals as goal

pub returns-then-kind-eq0 : goal.returns-then-kind-eq0
returns-then-kind-eq0 c = record {
  value = search kind_laws;
  atoms_after = search kind_laws;
  bonds_after = search kind_laws;
  read_promise = search promise_laws;
}

pub returns-then-kind-eq1 : goal.returns-then-kind-eq1
returns-then-kind-eq1 c = record {
  value = search kind_laws;
  atoms_after = search kind_laws;
  bonds_after = search kind_laws;
  read_promise = search promise_laws;
}

pub returns : goal.returns
returns c = record {
  value = search kind_laws;
  atoms_after = search kind_laws;
  bonds_after = search kind_laws;
  read_promise = search promise_laws;
}
