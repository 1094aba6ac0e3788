-- `line_property::charge_field` meets its contract.
use Rattle.std.proofs.Common.{rules}
use Rattle.line_fields.specs.Steps.{steps}
use Rattle.line_property.specs.Entering.{charge_fits, charge_cast, charge_next}
use Rattle.line_property.specs.Answer.{noted_at}
use Rattle.judge_line.specs.Judge.{entry_number_at}
use Rattle.line_property.proofs.charge_field.Goals as goal

pub returns-in_err-z : goal.returns-in_err-z
unfolding noted_at entry_number_at
returns-in_err-z c = search (steps, c.in_err-z.was) depth 24 fits 20000

pub overflow_add-result : goal.overflow_add-result
overflow_add-result c = search (rules, charge_fits, c.in_ok-z.was)

pub overflow_cast-result : goal.overflow_cast-result
overflow_cast-result c = charge_cast _ _ _ _ _ c.signed_field.ensures c.in_ok-z.was (search rules)

pub returns : goal.returns
returns c = search (rules, charge_next, c.in_ok-z.was)
