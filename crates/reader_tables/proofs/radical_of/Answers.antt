-- `reader_tables::radical_of` meets its contract.
use Rattle.reader_tables.proofs.Meaning.{meaning}
use borrow.Author.Rules.{rules}
use Rattle.reader_tables.proofs.radical_of.Goals as goal

pub returns-then-over : goal.returns-then-over
returns-then-over c = search (rules, meaning)

pub returns-then-code-eq4 : goal.returns-then-code-eq4
returns-then-code-eq4 c = search (rules, meaning)

pub returns : goal.returns
returns c = search (rules, meaning)
