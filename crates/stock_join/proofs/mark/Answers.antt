use Rattle.stock_join.specs.Steps.{mark_laws}
use borrow.Author.Rules.{rules}
use Rattle.stock_join.proofs.mark.Goals as goal

pub returns-then-count-eq0 : goal.returns-then-count-eq0
returns-then-count-eq0 c = search (rules, mark_laws)

pub returns : goal.returns
returns c = search (rules, mark_laws)
