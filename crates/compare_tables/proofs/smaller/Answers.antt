use borrow.Author.Rules.{rules}
use Rattle.compare_tables.specs.Smaller.{smaller_laws}
use Rattle.compare_tables.proofs.smaller.Goals as goal

pub returns-then-n-m : goal.returns-then-n-m
returns-then-n-m c = search (rules, smaller_laws)

pub returns : goal.returns
returns c = search (rules, smaller_laws)
