-- `store_lots::paper_at` meets its contract.
use Rattle.store_event.specs.EventRead.{tests}
use Rattle.store_lots.specs.Memory.{paper_at}
use borrow.Author.Rules.{rules}
use Rattle.store_lots.proofs.paper_at.Goals as goal

pub returns-then-lot-lots : goal.returns-then-lot-lots
unfolding paper_at
returns-then-lot-lots c = search (rules, tests)

pub returns : goal.returns
unfolding paper_at
returns c = search (rules, tests)
