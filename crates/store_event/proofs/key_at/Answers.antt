-- `store_event::key_at` meets its contract.
use Rattle.store_event.specs.EventRead.{number_laws}
use borrow.Author.Rules.{rules}
use Rattle.store_event.proofs.key_at.Goals as goal

pub returns : goal.returns
returns c = search (rules, number_laws)
