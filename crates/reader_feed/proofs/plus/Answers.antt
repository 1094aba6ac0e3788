-- `reader_feed::plus` meets its contract.
use borrow.Author.Rules.{rules}
use Rattle.reader_feed.specs.Pieces.{plus_laws}
use Rattle.reader_feed.proofs.plus.Goals as goal

pub returns-then-a-b : goal.returns-then-a-b
returns-then-a-b c = search (rules, plus_laws)

pub returns : goal.returns
returns c = search (rules, plus_laws)
