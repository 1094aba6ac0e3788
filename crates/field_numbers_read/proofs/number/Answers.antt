-- `field_numbers::number` meets its contract.
use borrow.Author.Rules.{rules}
use Rattle.field_numbers.proofs.Fields.{usual_laws}
use Rattle.field_numbers_read.proofs.number.Goals as goal

pub overflow_add-i : goal.overflow_add-i
overflow_add-i c = search (rules, usual_laws)

pub short_number-k-requires : goal.short_number-k-requires
short_number-k-requires c = search (rules, usual_laws)

pub within-requires : goal.within-requires
within-requires c = search (rules, usual_laws)

pub returns-then-k-le99 : goal.returns-then-k-le99
returns-then-k-le99 c = search (rules, usual_laws)

pub any_number-requires : goal.any_number-requires
any_number-requires c = search (rules, usual_laws)

pub returns-then-j-i : goal.returns-then-j-i
returns-then-j-i c = search (rules, usual_laws)

pub any_number-requires-2 : goal.any_number-requires-2
any_number-requires-2 c = search (rules, usual_laws)

pub returns : goal.returns
returns c = search (rules, usual_laws)
