-- `capellanote::items::capellanote_item` meets its contract.
use Rattle.capellanote.specs.Items.{step_laws}
use borrow.Author.Rules.{rules}
use Rattle.capellanote.proofs.items.capellanote_item.Goals as goal

pub returns : goal.returns
returns c = search (rules, step_laws)
