-- `line_usual_position::coordinate` meets its contract.
use borrow.Author.Rules.{rules}
use Rattle.line_usual_position.specs.Usual.{coordinate_is}
use Rattle.line_usual_position.proofs.coordinate.Goals as goal

pub returns : goal.returns
returns c = search (rules, coordinate_is)
