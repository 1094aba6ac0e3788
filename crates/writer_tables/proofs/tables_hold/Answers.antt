-- `writer_tables::tables_hold` meets its contract.
use Rattle.writer_tables.specs.Tables.{tables_hold}
use Rattle.writer_row.proofs.Steps.{tests}
use Rattle.writer_tables.proofs.Steps.{pair_steps}
use borrow.Author.Rules.{rules}
use Rattle.writer_tables.proofs.tables_hold.Goals as goal

pub returns-then-not-atoms_hold : goal.returns-then-not-atoms_hold
unfolding tables_hold
returns-then-not-atoms_hold c = search (tests, pair_steps) depth 24 fits 20000

pub returns-then-not-bonds_hold : goal.returns-then-not-bonds_hold
unfolding tables_hold
returns-then-not-bonds_hold c = search (tests, pair_steps) depth 24 fits 20000

pub returns-in-Nothing : goal.returns-in-Nothing
unfolding tables_hold
returns-in-Nothing c = search (tests, pair_steps) depth 24 fits 20000

pub returns-in-Pair : goal.returns-in-Pair
unfolding tables_hold
returns-in-Pair c = search (tests, pair_steps) depth 24 fits 20000
