-- `writer_row::stereo_holds` meets its contract.
use Rattle.writer_row.proofs.Steps.{by_type}
use borrow.Author.Rules.{rules}
use Rattle.writer_row.proofs.stereo_holds.Goals as goal

pub returns-then-order-eq1 : goal.returns-then-order-eq1
returns-then-order-eq1 c = search (rules, by_type)

pub returns-then-order-eq2 : goal.returns-then-order-eq2
returns-then-order-eq2 c = search (rules, by_type)

pub returns : goal.returns
returns c = search (rules, by_type)
