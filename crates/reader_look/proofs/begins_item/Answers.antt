-- `reader_look::begins_item` meets its contract.
use Rattle.reader_look.specs.Looking.{begins_laws}
use borrow.Author.Rules.{rules}
use Rattle.reader_look.proofs.begins_item.Goals as goal

pub returns-then-lines-lt3 : goal.returns-then-lines-lt3
returns-then-lines-lt3 c = search (rules, begins_laws)

pub returns-then-first-eq62 : goal.returns-then-first-eq62
returns-then-first-eq62 c = search (rules, begins_laws)

pub returns : goal.returns
returns c = search (rules, begins_laws)
