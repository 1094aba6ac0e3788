-- `reader_record::read_rows` meets its contract.
use Rattle.reader_answer.specs.Rows.{rows_laws}
use Rattle.reader_answer.proofs.TablesRead.{room_laws}
use Rattle.reader_rows.specs.Rowed.{lent_none}
use borrow.Author.Rules.{rules}
use Rattle.reader_record.proofs.read_rows.Goals as goal

pub returns-then-atoms-lt-ATOMS : goal.returns-then-atoms-lt-ATOMS
returns-then-atoms-lt-ATOMS c = search (rules, room_laws, rows_laws, lent_none)

pub returns-then-bonds-lt-BONDS : goal.returns-then-bonds-lt-BONDS
returns-then-bonds-lt-BONDS c = search (rules, room_laws, rows_laws, lent_none)

pub read_front-got-requires : goal.read_front-got-requires
read_front-got-requires c = search (rules, room_laws, rows_laws, lent_none)

pub returns : goal.returns
returns c = search (rules, room_laws, rows_laws, lent_none)
