-- `reader_tables::mass_of` meets its contract.
use borrow.Author.Rules.{rules}
use Rattle.reader_tables.proofs.Meaning.{meaning}
use Rattle.reader_tables.proofs.mass_of.Goals as goal

pub returns-then-over : goal.returns-then-over
returns-then-over c = search (rules, meaning)

pub returns-else-over : goal.returns-else-over
returns-else-over c = search (rules, meaning)
