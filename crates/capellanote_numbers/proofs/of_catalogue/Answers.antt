-- `capellanote_numbers::of_catalogue` meets its contract.
use Rattle.capellanote_numbers.specs.Numbers.{catalogue_array}
use borrow.Author.Rules.{rules}
use Rattle.capellanote_numbers.proofs.of_catalogue.Goals as goal

pub returns-in-Done : goal.returns-in-Done
returns-in-Done c = search (rules, catalogue_array)

pub returns-in-Refused : goal.returns-in-Refused
returns-in-Refused c = search (rules, catalogue_array)
