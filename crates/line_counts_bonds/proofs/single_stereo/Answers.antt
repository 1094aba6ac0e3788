-- `line_counts_bonds::single_stereo` meets its contract.
use borrow.Author.Rules.{rules}
use Rattle.line_counts_bonds.specs.Lists.{one_by_one}
use Rattle.line_counts_bonds.proofs.single_stereo.Goals as goal

pub returns-then-stereo-eq0 : goal.returns-then-stereo-eq0
returns-then-stereo-eq0 c = search (rules, one_by_one)

pub returns-then-stereo-eq1 : goal.returns-then-stereo-eq1
returns-then-stereo-eq1 c = search (rules, one_by_one)

pub returns-then-stereo-eq4 : goal.returns-then-stereo-eq4
returns-then-stereo-eq4 c = search (rules, one_by_one)

pub returns : goal.returns
returns c = search (rules, one_by_one)
