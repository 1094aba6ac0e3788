-- `field_numbers::signed_digits` meets its contract.
use Rattle.field_numbers.proofs.Fields.{from_laws}
use borrow.Author.Rules.{rules}
use Rattle.field_numbers_read.proofs.signed_digits.Goals as goal

pub returns-then-b-eq45 : goal.returns-then-b-eq45
returns-then-b-eq45 c = search (rules, from_laws)

pub returns-then-b-eq43 : goal.returns-then-b-eq43
returns-then-b-eq43 c = search (rules, from_laws)

pub returns : goal.returns
returns c = search (rules, from_laws)
