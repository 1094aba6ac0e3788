-- `field_coordinates::put_point` meets its contract.
use Rattle.field_coordinates_put.proofs.Texts.{both_laid}
use borrow.Author.Rules.{rules}
use Rattle.field_coordinates_put.proofs.put_point.Goals as goal

pub returns : goal.returns
returns c = search (rules, both_laid)
