-- `capellanote_numbers::of_found` meets its contract.
use Rattle.capellanote_numbers.specs.Numbers.{found_array}
use borrow.Author.Rules.{rules}
use Rattle.capellanote_numbers.proofs.of_found.Goals as goal

pub returns-in-Item : goal.returns-in-Item
returns-in-Item c = search (rules, found_array)

pub returns-in-Refused : goal.returns-in-Refused
returns-in-Refused c = search (rules, found_array)
