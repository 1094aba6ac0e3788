-- `reader_feed::Counter::take` meets its contract.
use borrow.Author.Rules.{rules}
use Rattle.reader_feed.specs.Feeding.{take_laws}
use Rattle.reader_feed.proofs.Counter.take.Goals as goal

pub returns-in-Over : goal.returns-in-Over
returns-in-Over c = search (rules, take_laws)

pub returns-in-Short : goal.returns-in-Short
returns-in-Short c = search (rules, take_laws)

pub returns-in-Refused : goal.returns-in-Refused
returns-in-Refused c = search (rules, take_laws)
