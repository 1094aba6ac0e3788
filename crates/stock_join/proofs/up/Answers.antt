use Rattle.stock_join.specs.Steps.{up_laws}
use borrow.Author.Rules.{rules}
use Rattle.stock_join.proofs.up.Goals as goal

pub returns-then-n-eq18446744073709551615 : goal.returns-then-n-eq18446744073709551615
returns-then-n-eq18446744073709551615 c = search (rules, up_laws)

pub returns : goal.returns
returns c = search (rules, up_laws)
