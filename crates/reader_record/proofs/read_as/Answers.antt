-- `reader_record::read_as` meets its contract.
use Rattle.reader_answer.proofs.TablesRead.{room_laws}
use Rattle.reader_rows.specs.Rowed.{lent_none}
use borrow.Author.Rules.{rules}
use Rattle.reader_record.proofs.read_as.Goals as goal

pub returns-then-atoms-lt-ATOMS : goal.returns-then-atoms-lt-ATOMS
returns-then-atoms-lt-ATOMS c = record {
  value = search (rules, room_laws);
  atoms_after = search (rules, room_laws);
  bonds_after = search (rules, room_laws);
}

pub returns-then-bonds-lt-BONDS : goal.returns-then-bonds-lt-BONDS
returns-then-bonds-lt-BONDS c = record {
  value = search (rules, room_laws);
  atoms_after = search (rules, room_laws);
  bonds_after = search (rules, room_laws);
}

pub read_cleared-got-requires : goal.read_cleared-got-requires
read_cleared-got-requires c = search (rules, room_laws, lent_none)

pub returns : goal.returns
returns c = record {
  value = search (rules, room_laws);
  atoms_after = search (rules, room_laws);
  bonds_after = search (rules, room_laws);
}
