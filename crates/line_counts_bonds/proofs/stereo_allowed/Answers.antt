-- `line_counts_bonds::stereo_allowed` meets its contract.
use Rattle.line_counts_bonds.specs.Lists.{bond_stereo}
use borrow.Author.Rules.{rules}
use Rattle.line_counts_bonds.proofs.stereo_allowed.Goals as goal

pub returns-then-order-eq1 : goal.returns-then-order-eq1
returns-then-order-eq1 c = search (rules, bond_stereo)

pub returns-then-stereo-eq0 : goal.returns-then-stereo-eq0
returns-then-stereo-eq0 c = search (rules, bond_stereo)

pub returns-then-order-eq2 : goal.returns-then-order-eq2
returns-then-order-eq2 c = search (rules, bond_stereo)

pub returns : goal.returns
returns c = search (rules, bond_stereo)
