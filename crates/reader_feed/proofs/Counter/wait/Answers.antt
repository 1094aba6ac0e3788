-- `reader_feed::Counter::wait` meets its contract.
use borrow.Author.Rules.{rules}
use Rattle.reader_feed.specs.Feeding.{end_laws}
use Rattle.reader_feed.proofs.Counter.wait.Goals as goal

pub returns-then-used-gt0 : goal.returns-then-used-gt0
returns-then-used-gt0 c = search (rules, end_laws)

pub returns-then-len-room : goal.returns-then-len-room
returns-then-len-room c = search (rules, end_laws)

pub returns : goal.returns
returns c = search (rules, end_laws)
