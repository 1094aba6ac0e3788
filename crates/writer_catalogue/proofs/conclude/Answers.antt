-- `writer_catalogue::conclude` meets its contract.
use borrow.Author.Rules.{rules}
use Rattle.writer_catalogue.specs.Measuring.{conclude_laws}
use Rattle.writer_catalogue.proofs.conclude.Goals as goal

pub returns-then-room-needed : goal.returns-then-room-needed
returns-then-room-needed c = search (rules, conclude_laws)

pub returns : goal.returns
returns c = search (rules, conclude_laws)
