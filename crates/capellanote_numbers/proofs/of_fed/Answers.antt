-- `capellanote_numbers::of_fed` meets its contract.
use Rattle.capellanote_numbers.specs.Numbers.{fed_array}
use borrow.Author.Rules.{rules}
use Rattle.capellanote_numbers.proofs.of_fed.Goals as goal

pub returns-in-More : goal.returns-in-More
returns-in-More c = search (rules, fed_array)

pub returns-in-Accepted : goal.returns-in-Accepted
returns-in-Accepted c = search (rules, fed_array)

pub returns-in-Refused : goal.returns-in-Refused
returns-in-Refused c = search (rules, fed_array)

pub returns-in-TooLong : goal.returns-in-TooLong
returns-in-TooLong c = search (rules, fed_array)
