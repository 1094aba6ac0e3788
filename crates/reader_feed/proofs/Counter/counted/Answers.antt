-- `reader_feed::Counter::counted` meets its contract.
use borrow.Author.Rules.{rules}
use Rattle.reader_feed.specs.Feeding.{counted_laws}
use Rattle.reader_feed.proofs.Counter.counted.Goals as goal

pub returns : goal.returns
returns c = search (rules, counted_laws)
