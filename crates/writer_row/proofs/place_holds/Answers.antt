-- `writer_row::place_holds` meets its contract.
use Rattle.writer_row.specs.Row.{place_holds}
use Rattle.writer_row.proofs.Steps.{tests}
use borrow.Author.Rules.{rules}
use Rattle.writer_row.proofs.place_holds.Goals as goal

pub returns-then-not-in_range : goal.returns-then-not-in_range
unfolding place_holds
returns-then-not-in_range c = search tests depth 24 fits 20000

pub returns-then-not-in_range-2 : goal.returns-then-not-in_range-2
unfolding place_holds
returns-then-not-in_range-2 c = search tests depth 24 fits 20000

pub returns-then-not-in_range-3 : goal.returns-then-not-in_range-3
unfolding place_holds
returns-then-not-in_range-3 c = search tests depth 24 fits 20000

pub returns-then-not-in_range-4 : goal.returns-then-not-in_range-4
unfolding place_holds
returns-then-not-in_range-4 c = search tests depth 24 fits 20000

pub returns : goal.returns
unfolding place_holds
returns c = search tests depth 24 fits 20000
