-- `reader_tables::charge_of` meets its contract.
use Rattle.reader_tables.proofs.Meaning.{meaning}
use borrow.Author.Rules.{rules}
use Rattle.reader_tables.proofs.charge_of.Goals as goal

pub returns-then-over : goal.returns-then-over
returns-then-over c = search (rules, meaning)

pub returns-then-code-eq1 : goal.returns-then-code-eq1
returns-then-code-eq1 c = search (rules, meaning)

pub returns-then-code-eq2 : goal.returns-then-code-eq2
returns-then-code-eq2 c = search (rules, meaning)

pub returns-then-code-eq3 : goal.returns-then-code-eq3
returns-then-code-eq3 c = search (rules, meaning)

pub returns-then-code-eq5 : goal.returns-then-code-eq5
returns-then-code-eq5 c = search (rules, meaning)

pub returns-then-code-eq6 : goal.returns-then-code-eq6
returns-then-code-eq6 c = search (rules, meaning)

pub returns-then-code-eq7 : goal.returns-then-code-eq7
returns-then-code-eq7 c = search (rules, meaning)

pub returns : goal.returns
returns c = search (rules, meaning)
