-- `writer_row::bond_holds` meets its contract.
use Rattle.writer_row.specs.Row.{bond_holds}
use Rattle.writer_row.proofs.Steps.{tests}
use borrow.Author.Rules.{rules}
use Rattle.writer_row.proofs.bond_holds.Goals as goal

pub returns-then-not-in_range : goal.returns-then-not-in_range
unfolding bond_holds
returns-then-not-in_range c = search tests depth 24 fits 20000

pub returns-then-not-in_range-2 : goal.returns-then-not-in_range-2
unfolding bond_holds
returns-then-not-in_range-2 c = search tests depth 24 fits 20000

pub returns-then-not-kind_holds : goal.returns-then-not-kind_holds
unfolding bond_holds
returns-then-not-kind_holds c = search tests depth 24 fits 20000

pub returns : goal.returns
unfolding bond_holds
returns c = search tests depth 24 fits 20000
