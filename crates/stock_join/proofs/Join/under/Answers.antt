use Rattle.stock_join.specs.Steps.{under_laws}
use borrow.Author.Rules.{rules}
use Rattle.stock_join.proofs.Join.under.Goals as goal

pub returns-then-lot-ge-LOTS : goal.returns-then-lot-ge-LOTS
returns-then-lot-ge-LOTS c = search (rules, under_laws)

pub returns : goal.returns
returns c = search (rules, under_laws)
