-- `writer_row::codes_hold` meets its contract.
use Rattle.writer_row.specs.Row.{codes_hold}
use Rattle.writer_row.proofs.Steps.{tests}
use borrow.Author.Rules.{rules}
use Rattle.writer_row.proofs.codes_hold.Goals as goal

pub returns-then-not-in_range : goal.returns-then-not-in_range
unfolding codes_hold
returns-then-not-in_range c = search tests depth 24 fits 20000

pub returns-then-not-in_range-2 : goal.returns-then-not-in_range-2
unfolding codes_hold
returns-then-not-in_range-2 c = search tests depth 24 fits 20000

pub returns-then-not-in_range-3 : goal.returns-then-not-in_range-3
unfolding codes_hold
returns-then-not-in_range-3 c = search tests depth 24 fits 20000

pub returns : goal.returns
unfolding codes_hold
returns c = search tests depth 24 fits 20000
