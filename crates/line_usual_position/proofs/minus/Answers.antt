-- `line_usual_position::minus` meets its contract.
use borrow.Author.Rules.{rules}
use Rattle.line_usual_position.specs.Usual.{minus_units, minus_tens}
use Rattle.line_usual_position.proofs.minus.Goals as goal

pub returns-then-inner_column-eq45 : goal.returns-then-inner_column-eq45
returns-then-inner_column-eq45 c = search (rules, minus_units)

pub returns : goal.returns
returns c = search (rules, minus_tens)
