-- `writer_tables::same_at` meets its contract.
use Rattle.writer_tables.proofs.Pairs.{two_bonds}
use borrow.Author.Rules.{rules}
use Rattle.writer_tables.proofs.same_at.Goals as goal

pub returns-then-a-c : goal.returns-then-a-c
returns-then-a-c c = search (rules, two_bonds)

pub returns-then-a-d : goal.returns-then-a-d
returns-then-a-d c = search (rules, two_bonds)

pub returns : goal.returns
returns c = search (rules, two_bonds)
