-- `field_coordinates::whole_field` meets its contract.
use borrow.Author.Rules.{rules}
use Rattle.field_coordinates.proofs.Fields.{field_laws}
use Rattle.field_coordinates.proofs.whole_field.Goals as goal

pub blank_only-requires : goal.blank_only-requires
blank_only-requires c = search (rules, field_laws)

pub returns-then-inner_column-ne46 : goal.returns-then-inner_column-ne46
returns-then-inner_column-ne46 c = search (rules, field_laws)

pub returns-then-inner_column-eq45 : goal.returns-then-inner_column-eq45
returns-then-inner_column-eq45 c = search (rules, field_laws)

pub returns : goal.returns
returns c = search (rules, field_laws)
