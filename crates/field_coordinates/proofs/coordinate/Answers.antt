-- `field_coordinates::coordinate` meets its contract.
use borrow.Author.Rules.{rules}
use Rattle.field_coordinates.proofs.Fields.{short_field}
use Rattle.field_coordinates.proofs.coordinate.Goals as goal

pub blank_only-requires : goal.blank_only-requires
blank_only-requires c = search (rules, short_field)
