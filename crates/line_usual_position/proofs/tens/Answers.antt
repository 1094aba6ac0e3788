-- `line_usual_position::tens` meets its contract.
use borrow.Author.Rules.{rules}
use Rattle.line_usual_position.specs.Usual.{tens_there, no_tens}
use Rattle.line_usual_position.proofs.tens.Goals as goal

pub returns-then-b-ge48 : goal.returns-then-b-ge48
returns-then-b-ge48 c = tens_there c.args.line.now c.args.i c.inner_column-b.result (search rules) (search rules) (search rules)

pub returns : goal.returns
returns c = no_tens c.args.line.now c.args.i c.inner_column-b.result (search rules) (search rules)
