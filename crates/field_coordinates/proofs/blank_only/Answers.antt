-- `field_coordinates::blank_only` meets its contract.
use borrow.Author.Rules.{rules}
use Rattle.field_coordinates.proofs.Fields.{blank_laws}
use Rattle.field_coordinates.proofs.blank_only.Goals as goal

pub returns-then-e-b : goal.returns-then-e-b
returns-then-e-b c = search (rules, blank_laws)

pub returns : goal.returns
returns c = search (rules, blank_laws)
