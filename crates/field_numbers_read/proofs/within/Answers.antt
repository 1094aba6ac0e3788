-- `field_numbers::within` meets its contract.
use borrow.Author.Rules.{rules}
use Rattle.field_numbers.proofs.Fields.{within_laws}
use Rattle.field_numbers_read.proofs.within.Goals as goal

pub returns-then-k-least : goal.returns-then-k-least
returns-then-k-least c = search (rules, within_laws)

pub returns-then-most-k : goal.returns-then-most-k
returns-then-most-k c = search (rules, within_laws)

pub returns : goal.returns
returns c = search (rules, within_laws)
