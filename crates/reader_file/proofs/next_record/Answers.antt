-- `reader_file::next_record` meets its contract.
use borrow.Author.Rules.{rules}
use Rattle.reader_file.specs.Stepping.{room_laws}
use Rattle.reader_file.specs.Promise.{promise_laws}
use Rattle.reader_file.proofs.next_record.Goals as goal

pub returns-then-atoms-lt-ATOMS : goal.returns-then-atoms-lt-ATOMS
returns-then-atoms-lt-ATOMS c = record {
  value = search room_laws;
  atoms_after = search room_laws;
  bonds_after = search room_laws;
  next_promise = search promise_laws;
}

pub returns-then-bonds-lt-BONDS : goal.returns-then-bonds-lt-BONDS
returns-then-bonds-lt-BONDS c = record {
  value = search room_laws;
  atoms_after = search room_laws;
  bonds_after = search room_laws;
  next_promise = search promise_laws;
}

pub returns : goal.returns
returns c = record {
  value = search room_laws;
  atoms_after = search room_laws;
  bonds_after = search room_laws;
  next_promise = search promise_laws;
}
