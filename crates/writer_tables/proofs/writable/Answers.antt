-- `writer_tables::writable` meets its contract.
use Rattle.writer_tables.specs.Tables.{writable_tables}
use Rattle.writer_row.proofs.Steps.{tests}
use Rattle.writer_tables.proofs.Steps.{n_small, m_small}
use borrow.Author.Rules.{rules}
use Rattle.writer_tables.proofs.writable.Goals as goal

pub returns-then-not-counts_hold : goal.returns-then-not-counts_hold
unfolding writable_tables
returns-then-not-counts_hold c = search tests depth 24 fits 20000

pub tables_hold-requires : goal.tables_hold-requires
tables_hold-requires c = search (rules, n_small, m_small)

pub returns : goal.returns
unfolding writable_tables
returns c = search tests depth 24 fits 20000
