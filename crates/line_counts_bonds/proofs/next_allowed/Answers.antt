-- `line_counts_bonds::next_allowed` meets its contract.
use borrow.Author.Rules.{rules}
use Rattle.line_counts_bonds.specs.Lists.{one_by_one, small_next, next_on_lem}
use Rattle.line_counts_bonds.proofs.next_allowed.Goals as goal

pub returns-then-k-le3 : goal.returns-then-k-le3
returns-then-k-le3 c = search (rules, one_by_one, small_next, next_on_lem) depth 12

pub returns-then-k-eq5 : goal.returns-then-k-eq5
returns-then-k-eq5 c = search (rules, one_by_one, small_next, next_on_lem) depth 12

pub returns-then-k-eq6 : goal.returns-then-k-eq6
returns-then-k-eq6 c = search (rules, one_by_one, small_next, next_on_lem) depth 12

pub returns-then-k-eq9 : goal.returns-then-k-eq9
returns-then-k-eq9 c = search (rules, one_by_one, small_next, next_on_lem) depth 12

pub returns-then-k-eq10 : goal.returns-then-k-eq10
returns-then-k-eq10 c = search (rules, one_by_one, small_next, next_on_lem) depth 12

pub returns-then-k-eq13 : goal.returns-then-k-eq13
returns-then-k-eq13 c = search (rules, one_by_one, small_next, next_on_lem) depth 12

pub returns : goal.returns
returns c = search (rules, one_by_one, small_next, next_on_lem) depth 12
