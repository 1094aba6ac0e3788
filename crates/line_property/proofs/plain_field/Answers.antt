-- `line_property::plain_field` meets its contract.
use Rattle.std.proofs.Common.{rules}
use Rattle.line_fields.specs.Steps.{steps}
use Rattle.line_property.specs.Entering.{plain_fits}
use Rattle.line_property.specs.Answer.{plain_at}
use Rattle.line_property.proofs.plain_field.Goals as goal

pub returns-in_err-k : goal.returns-in_err-k
unfolding plain_at
returns-in_err-k c = search (steps, c.in_err-k.was) depth 24 fits 20000

pub overflow_add-result : goal.overflow_add-result
overflow_add-result c = search (rules, plain_fits, c.in_ok-k.was)

pub returns : goal.returns
unfolding plain_at
returns c = search (steps, c.in_ok-k.was) depth 24 fits 20000
