-- `store_event::scan_at` meets its contract.
use Rattle.store_event.specs.EventRead.{scan_laws}
use borrow.Author.Rules.{rules}
use Rattle.store_event.proofs.scan_at.Goals as goal

pub returns-then-left-lt5 : goal.returns-then-left-lt5
returns-then-left-lt5 c = search (rules, scan_laws)

pub returns-then-kind-eq68 : goal.returns-then-kind-eq68
returns-then-kind-eq68 c = search (rules, scan_laws)

pub returns-then-left-lt15 : goal.returns-then-left-lt15
returns-then-left-lt15 c = search (rules, scan_laws)

pub returns-then-is_scan : goal.returns-then-is_scan
returns-then-is_scan c = search (rules, scan_laws)

pub returns : goal.returns
returns c = search (rules, scan_laws)
