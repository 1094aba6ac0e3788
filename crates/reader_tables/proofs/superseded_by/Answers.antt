-- `reader_tables::superseded_by` meets its contract.
use Rattle.reader_tables.proofs.Rows.{superseded_made}
use borrow.Author.Rules.{rules}
use Rattle.reader_tables.proofs.superseded_by.Goals as goal

pub returns : goal.returns
returns c = search (rules, superseded_made)
