-- `capellanote_numbers::of_copied` meets its contract.
use Rattle.capellanote_numbers.specs.Numbers.{copied_array}
use borrow.Author.Rules.{rules}
use Rattle.capellanote_numbers.proofs.of_copied.Goals as goal

pub returns-in-Done : goal.returns-in-Done
returns-in-Done c = search (rules, copied_array)

pub returns-in-Refused : goal.returns-in-Refused
returns-in-Refused c = search (rules, copied_array)
