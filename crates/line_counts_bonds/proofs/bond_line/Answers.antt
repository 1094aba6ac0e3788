-- `line_counts_bonds::bond_line` meets its contract.
use Rattle.line_fields.specs.Steps.{steps}
use Rattle.judge_line.specs.Judge.{bond_of}
use Rattle.line_counts_bonds.specs.Answer.{bond_from}
use Rattle.line_counts_bonds.specs.Usual.{bond_plain}
use Rattle.line_counts_bonds.proofs.bond_line.Goals as goal

pub returns-in_err-first : goal.returns-in_err-first
unfolding bond_of bond_from
returns-in_err-first c = search (steps, c.in_err-first.was) depth 24 fits 20000

pub returns-in_err-second : goal.returns-in_err-second
unfolding bond_of bond_from
returns-in_err-second c = search (steps, c.in_ok-first.was, c.in_err-second.was) depth 24 fits 20000

pub returns-in_err-order : goal.returns-in_err-order
unfolding bond_of bond_from
returns-in_err-order c = search (steps, c.in_ok-first.was, c.in_ok-second.was, c.in_err-order.was) depth 24 fits 20000

pub returns-in_err-stereo : goal.returns-in_err-stereo
unfolding bond_of bond_from
returns-in_err-stereo c = search (steps, c.in_ok-first.was, c.in_ok-second.was, c.in_ok-order.was, c.in_err-stereo.was) depth 24 fits 20000

pub returns : goal.returns
unfolding bond_of bond_from
returns c = search (steps, c.in_ok-first.was, c.in_ok-second.was, c.in_ok-order.was, c.in_ok-stereo.was) depth 24 fits 20000

pub returns-then-bond_zeros : goal.returns-then-bond_zeros
returns-then-bond_zeros c = search (bond_plain, c.in_ok-first.was, c.in_ok-second.was, c.in_ok-order.was) depth 12 fits 20000
