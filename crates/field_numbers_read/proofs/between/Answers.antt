-- `field_numbers::between` meets its contract.
use Rattle.field_numbers.proofs.Fields.{between_laws}
use borrow.Author.Rules.{rules}
use Rattle.field_numbers_read.proofs.between.Goals as goal

pub returns-then-below-k : goal.returns-then-below-k
returns-then-below-k c = search (rules, between_laws)

pub returns-then-minus : goal.returns-then-minus
returns-then-minus c = search (rules, between_laws)

pub returns-then-above-k : goal.returns-then-above-k
returns-then-above-k c = search (rules, between_laws)

pub returns : goal.returns
returns c = search (rules, between_laws)
