-- `writer_tables::counts_hold` meets its contract.
use Rattle.writer_tables.specs.Tables.{counts_hold}
use Rattle.writer_row.proofs.Steps.{tests}
use Rattle.writer_tables.proofs.Steps.{counts}
use borrow.Author.Rules.{rules}
use Rattle.writer_tables.proofs.counts_hold.Goals as goal

pub returns-then-n-gt-LIMIT : goal.returns-then-n-gt-LIMIT
unfolding counts_hold
returns-then-n-gt-LIMIT c = search (tests, counts) depth 24 fits 20000

pub returns-then-m-gt-LIMIT : goal.returns-then-m-gt-LIMIT
unfolding counts_hold
returns-then-m-gt-LIMIT c = search (tests, counts) depth 24 fits 20000

pub returns-then-not-enough_pairs : goal.returns-then-not-enough_pairs
unfolding counts_hold
returns-then-not-enough_pairs c = search (tests, counts) depth 24 fits 20000

pub returns : goal.returns
unfolding counts_hold
returns c = search (tests, counts) depth 24 fits 20000
