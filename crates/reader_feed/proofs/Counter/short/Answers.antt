-- `reader_feed::Counter::short` meets its contract.
use borrow.Author.Rules.{rules}
use Rattle.reader_feed.specs.Feeding.{end_laws}
use Rattle.reader_feed.proofs.Counter.short.Goals as goal

pub returns-then-ended : goal.returns-then-ended
returns-then-ended c = search (rules, end_laws)

pub returns : goal.returns
returns c = search (rules, end_laws)
