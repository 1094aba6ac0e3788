-- `field_numbers::sized` meets its contract.
use Rattle.field_numbers.proofs.Fields.{sized_laws}
use borrow.Author.Rules.{rules}
use Rattle.field_numbers_read.proofs.sized.Goals as goal

pub returns-then-z-i : goal.returns-then-z-i
returns-then-z-i c = search (rules, sized_laws)

pub signed_digits-requires : goal.signed_digits-requires
signed_digits-requires c = search (rules, sized_laws)

pub returns-then-negatives : goal.returns-then-negatives
returns-then-negatives c = search (rules, sized_laws)

pub returns : goal.returns
returns c = search (rules, sized_laws)
