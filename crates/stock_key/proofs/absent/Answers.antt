use borrow.Author.Rules.{rules}
use Rattle.stock_key.specs.Steps.{absent_laws}
use Rattle.stock_key.proofs.absent.Goals as goal

pub returns-then-no-eq22 : goal.returns-then-no-eq22
returns-then-no-eq22 c = search (rules, absent_laws)

pub returns : goal.returns
returns c = search (rules, absent_laws)
