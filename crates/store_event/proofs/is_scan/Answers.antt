-- `store_event::is_scan` meets its contract.
use Rattle.store_event.specs.EventRead.{tests}
use Rattle.store_event.specs.Scan.{is_scan}
use borrow.Author.Rules.{rules}
use Rattle.store_event.proofs.is_scan.Goals as goal

pub returns-then-kind-eq82 : goal.returns-then-kind-eq82
unfolding is_scan
returns-then-kind-eq82 c = search (rules, tests)

pub returns-then-kind-eq73 : goal.returns-then-kind-eq73
unfolding is_scan
returns-then-kind-eq73 c = search (rules, tests)

pub returns : goal.returns
unfolding is_scan
returns c = search (rules, tests)
