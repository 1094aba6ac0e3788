-- `reader_items::with_values` meets its contract.
use Rattle.reader_items.specs.Running.{with_laws}
use borrow.Author.Rules.{rules}
use Rattle.reader_items.proofs.with_values.Goals as goal

pub returns-in-Over : goal.returns-in-Over
returns-in-Over c = search (rules, with_laws)

pub returns-in-Refused : goal.returns-in-Refused
returns-in-Refused c = search (rules, with_laws)
