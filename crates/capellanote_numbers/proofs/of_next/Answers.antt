-- `capellanote_numbers::of_next` meets its contract.
use Rattle.capellanote_numbers.specs.Numbers.{next_array}
use borrow.Author.Rules.{rules}
use Rattle.capellanote_numbers.proofs.of_next.Goals as goal

pub returns-in-Record : goal.returns-in-Record
returns-in-Record c = search (rules, next_array)

pub returns-in-End : goal.returns-in-End
returns-in-End c = search (rules, next_array)

pub returns-in-Refused : goal.returns-in-Refused
returns-in-Refused c = search (rules, next_array)
