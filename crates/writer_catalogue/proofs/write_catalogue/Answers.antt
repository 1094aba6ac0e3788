-- `writer_catalogue::write_catalogue` meets its contract.
use borrow.Author.Rules.{rules}
use Rattle.writer_answer.proofs.CataloguePromise.{promise_laws}
use Rattle.writer_catalogue.proofs.write_catalogue.Goals as goal

pub returns-then-atoms-lt-ATOMS : goal.returns-then-atoms-lt-ATOMS
returns-then-atoms-lt-ATOMS c = search (rules, promise_laws)

pub returns-then-bonds-lt-BONDS : goal.returns-then-bonds-lt-BONDS
returns-then-bonds-lt-BONDS c = search (rules, promise_laws)

pub returns : goal.returns
returns c = search (rules, promise_laws)
