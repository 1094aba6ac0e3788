-- `line_atom::any_position` meets its contract.
use Rattle.line_fields.specs.Steps.{steps}
use Rattle.line_atom.specs.Answer.{position_of}
use Rattle.line_atom.proofs.any_position.Goals as goal

pub returns-in_err-x : goal.returns-in_err-x
unfolding position_of
returns-in_err-x c = search (steps, c.in_err-x.was) depth 24 fits 20000

pub returns-in_err-y : goal.returns-in_err-y
unfolding position_of
returns-in_err-y c = search (steps, c.in_ok-x.was, c.in_err-y.was) depth 24 fits 20000

pub returns-in_err-z : goal.returns-in_err-z
unfolding position_of
returns-in_err-z c = search (steps, c.in_ok-x.was, c.in_ok-y.was, c.in_err-z.was) depth 24 fits 20000

pub returns : goal.returns
unfolding position_of
returns c = search (steps, c.in_ok-x.was, c.in_ok-y.was, c.in_ok-z.was) depth 24 fits 20000
