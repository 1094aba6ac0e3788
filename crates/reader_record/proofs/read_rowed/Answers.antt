-- `reader_record::read_rowed` meets its contract.
use Rattle.reader_answer.specs.RowedHolds.{lent_cleared}
use Rattle.reader_answer.proofs.RowedHolds.{rowed_room_laws}
use borrow.Author.Rules.{rules}
use Rattle.reader_record.proofs.read_rowed.Goals as goal

pub returns-then-atoms-lt-ATOMS : goal.returns-then-atoms-lt-ATOMS
returns-then-atoms-lt-ATOMS c = search (rules, rowed_room_laws, lent_cleared)

pub returns-then-bonds-lt-BONDS : goal.returns-then-bonds-lt-BONDS
returns-then-bonds-lt-BONDS c = search (rules, rowed_room_laws, lent_cleared)

pub returns-then-rows-lt-ROWS : goal.returns-then-rows-lt-ROWS
returns-then-rows-lt-ROWS c = search (rules, rowed_room_laws, lent_cleared)

pub read_cleared-got-requires : goal.read_cleared-got-requires
read_cleared-got-requires c = search (rules, rowed_room_laws, lent_cleared)

pub returns : goal.returns
returns c = search (rules, rowed_room_laws, lent_cleared)
