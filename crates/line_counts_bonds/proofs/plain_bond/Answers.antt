-- `line_counts_bonds::plain_bond` meets its contract.
use Rattle.line_fields.specs.Steps.{steps}
use Rattle.line_counts_bonds.specs.Usual.{plain_bond}
use Rattle.line_counts_bonds.proofs.plain_bond.Goals as goal

pub returns-then-first-second : goal.returns-then-first-second
unfolding plain_bond
returns-then-first-second c = search steps depth 24 fits 20000

pub returns : goal.returns
unfolding plain_bond
returns c = search steps depth 24 fits 20000
