-- `capellanote::items::of_step` meets its contract.
use Rattle.capellanote.specs.Items.{step_array}
use borrow.Author.Rules.{rules}
use Rattle.capellanote.proofs.items.of_step.Goals as goal

pub returns-in-Item : goal.returns-in-Item
returns-in-Item c = search (rules, step_array)

pub returns-in-End : goal.returns-in-End
returns-in-End c = search (rules, step_array)

pub returns-in-Refused : goal.returns-in-Refused
returns-in-Refused c = search (rules, step_array)
