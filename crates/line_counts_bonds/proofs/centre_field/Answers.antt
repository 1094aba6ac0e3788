-- `line_counts_bonds::centre_field` meets its contract.
use Rattle.std.proofs.Common.{rules, SFits}
use Rattle.std.specs.Int.{w32}
use Rattle.line_fields.specs.Steps.{steps, hop, signed_range}
use Rattle.judge_line.specs.Field.{listed_at, signed_listed_at}
use Rattle.line_counts_bonds.proofs.centre_field.Goals as goal

pub returns-in_err-centre : goal.returns-in_err-centre
unfolding listed_at signed_listed_at
returns-in_err-centre c = search (steps, c.in_err-centre.was) depth 24 fits 20000

pub returns-then-centre_allowed : goal.returns-then-centre_allowed
unfolding listed_at signed_listed_at
returns-then-centre_allowed c = search (steps, c.in_ok-centre.was) depth 24 fits 20000

pub returns-else-centre_allowed : goal.returns-else-centre_allowed
unfolding listed_at signed_listed_at
returns-else-centre_allowed c = search (steps, c.in_ok-centre.was) depth 24 fits 20000

pub centre_allowed-requires : goal.centre_allowed-requires
centre_allowed-requires c = let f : SFits w32 c.in_ok-centre.centre = search rules in
    rw (hop c.in_ok-centre.centre f) (signed_range c.args.line.now 19 21 1 13 _ _ c.signed_field.ensures c.in_ok-centre.was)
