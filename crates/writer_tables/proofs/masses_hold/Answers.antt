-- `writer_tables::masses_hold` meets its contract.
use Rattle.writer_tables.specs.Tables.{masses_hold}
use Rattle.writer_tables.proofs.Steps.{masses}
use borrow.Author.Rules.{rules}
use Rattle.writer_tables.proofs.masses_hold.Goals as goal

pub returns-then-all_zero : goal.returns-then-all_zero
unfolding masses_hold
returns-then-all_zero c = search masses depth 24 fits 20000

pub returns : goal.returns
unfolding masses_hold
returns c = search masses depth 24 fits 20000
