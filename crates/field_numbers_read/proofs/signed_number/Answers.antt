-- `field_numbers::signed_number` meets its contract.
use borrow.Author.Rules.{rules}
use Rattle.field_numbers.proofs.Fields.{usual_laws}
use Rattle.field_numbers_read.proofs.signed_number.Goals as goal

pub overflow_add-i : goal.overflow_add-i
overflow_add-i c = search (rules, usual_laws)

pub short_number-k-requires : goal.short_number-k-requires
short_number-k-requires c = search (rules, usual_laws)

pub between-requires : goal.between-requires
between-requires c = search (rules, usual_laws)

pub returns-then-k-le99 : goal.returns-then-k-le99
returns-then-k-le99 c = search (rules, usual_laws)

pub any_signed-requires : goal.any_signed-requires
any_signed-requires c = search (rules, usual_laws)

pub returns : goal.returns
returns c = search (rules, usual_laws)
