-- `writer_row::changes_hold` meets its contract.
use Rattle.writer_row.specs.Row.{changes_hold}
use Rattle.writer_row.proofs.Steps.{tests}
use borrow.Author.Rules.{rules}
use Rattle.writer_row.proofs.changes_hold.Goals as goal

pub returns-then-not-in_range : goal.returns-then-not-in_range
unfolding changes_hold
returns-then-not-in_range c = search tests depth 24 fits 20000

pub returns : goal.returns
unfolding changes_hold
returns c = search tests depth 24 fits 20000
