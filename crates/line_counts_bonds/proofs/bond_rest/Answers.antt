-- `line_counts_bonds::bond_rest` meets its contract.
use Rattle.line_fields.specs.Steps.{steps}
use Rattle.line_counts_bonds.specs.Answer.{bond_from}
use Rattle.line_counts_bonds.proofs.bond_rest.Goals as goal

pub returns-in_err-topology : goal.returns-in_err-topology
unfolding bond_from
returns-in_err-topology c = search (steps, c.in_err-topology.was) depth 24 fits 20000

pub returns-in_err-centre : goal.returns-in_err-centre
unfolding bond_from
returns-in_err-centre c = search (steps, c.in_ok-topology.was, c.in_err-centre.was) depth 24 fits 20000

pub returns-then-first-second : goal.returns-then-first-second
unfolding bond_from
returns-then-first-second c = search (steps, c.in_ok-topology.was, c.in_ok-centre.was) depth 24 fits 20000

pub returns-else-first-second : goal.returns-else-first-second
unfolding bond_from
returns-else-first-second c = search (steps, c.in_ok-topology.was, c.in_ok-centre.was) depth 24 fits 20000

pub returns-in-Some : goal.returns-in-Some
unfolding bond_from
returns-in-Some c = search (steps, c.in_ok-topology.was, c.in_ok-centre.was) depth 24 fits 20000
