-- `store_lots::is_lot` meets its contract.
use Rattle.store_event.specs.EventRead.{tests}
use Rattle.store_lots.specs.Memory.{same_key_at}
use borrow.Author.Rules.{rules}
use Rattle.store_lots.proofs.is_lot.Goals as goal

pub returns-then-keys-i : goal.returns-then-keys-i
unfolding same_key_at
returns-then-keys-i c = search (rules, tests)

pub returns-then-keys-i-2 : goal.returns-then-keys-i-2
unfolding same_key_at
returns-then-keys-i-2 c = search (rules, tests)

pub returns : goal.returns
unfolding same_key_at
returns c = search (rules, tests)
