-- `line_atom::exact_field` meets its contract.
use Rattle.line_fields.specs.Steps.{steps}
use Rattle.line_atom.specs.Answer.{exact_of}
use Rattle.line_atom.proofs.exact_field.Goals as goal

pub returns-in_err-exact : goal.returns-in_err-exact
unfolding exact_of
returns-in_err-exact c = search (steps, c.in_err-exact.was) depth 24 fits 20000

pub returns-in-None : goal.returns-in-None
unfolding exact_of
returns-in-None c = search (steps, c.in_ok-exact.was) depth 24 fits 20000

pub returns-in-Some : goal.returns-in-Some
unfolding exact_of
returns-in-Some c = search (steps, c.in_ok-exact.was) depth 24 fits 20000
