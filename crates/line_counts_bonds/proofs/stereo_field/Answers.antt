-- `line_counts_bonds::stereo_field` meets its contract.
use Rattle.line_fields.specs.Steps.{steps}
use Rattle.judge_line.specs.Field.{listed_at, signed_listed_at}
use Rattle.line_counts_bonds.proofs.stereo_field.Goals as goal

pub returns-in_err-stereo : goal.returns-in_err-stereo
unfolding listed_at signed_listed_at
returns-in_err-stereo c = search (steps, c.in_err-stereo.was) depth 24 fits 20000

pub returns-then-stereo_allowed : goal.returns-then-stereo_allowed
unfolding listed_at signed_listed_at
returns-then-stereo_allowed c = search (steps, c.in_ok-stereo.was) depth 24 fits 20000

pub returns-else-stereo_allowed : goal.returns-else-stereo_allowed
unfolding listed_at signed_listed_at
returns-else-stereo_allowed c = search (steps, c.in_ok-stereo.was) depth 24 fits 20000
