-- `field_numbers::first_digit` meets its contract.
use borrow.Author.Rules.{rules}
use Rattle.field_numbers_put.proofs.Texts.{first_none, first_some}
use Rattle.field_numbers_put.proofs.first_digit.Goals as goal

pub returns-then-k-lt1 : goal.returns-then-k-lt1
returns-then-k-lt1 c = search (rules, first_none)

pub returns : goal.returns
returns c = search (rules, first_some)
