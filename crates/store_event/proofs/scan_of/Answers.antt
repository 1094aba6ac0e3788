-- `store_event::scan_of` meets its contract.
use Rattle.store_event.specs.EventRead.{tests}
use Rattle.store_event.specs.Scan.{scan_of}
use borrow.Author.Rules.{rules}
use Rattle.store_event.proofs.scan_of.Goals as goal

pub returns-then-kind-eq82 : goal.returns-then-kind-eq82
unfolding scan_of
returns-then-kind-eq82 c = search (rules, tests)

pub returns-then-kind-eq73 : goal.returns-then-kind-eq73
unfolding scan_of
returns-then-kind-eq73 c = search (rules, tests)

pub returns : goal.returns
unfolding scan_of
returns c = search (rules, tests)
