-- `field_coordinates::sign_column` meets its contract.
use borrow.Author.Rules.{rules}
use Rattle.field_coordinates_put.proofs.Texts.{sign_is, sign_not}
use Rattle.field_coordinates_put.proofs.sign_column.Goals as goal

pub returns-then-minus : goal.returns-then-minus
returns-then-minus c = search (rules, sign_is)

pub returns-else-minus : goal.returns-else-minus
returns-else-minus c = search (rules, sign_not)
