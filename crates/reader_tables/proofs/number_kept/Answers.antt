-- `reader_tables::number_kept` meets its contract.
use Rattle.reader_tables.proofs.Meaning.{keeping}
use borrow.Author.Rules.{rules}
use Rattle.reader_tables.proofs.number_kept.Goals as goal

pub returns-then-k-eq0 : goal.returns-then-k-eq0
returns-then-k-eq0 c = search (rules, keeping)

pub returns-then-k-ge16 : goal.returns-then-k-ge16
returns-then-k-ge16 c = search (rules, keeping)

pub returns : goal.returns
returns c = search (rules, keeping)
