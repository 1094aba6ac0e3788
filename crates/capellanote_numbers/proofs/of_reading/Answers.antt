-- `capellanote_numbers::of_reading` meets its contract.
use Rattle.capellanote_numbers.specs.Numbers.{read_array}
use borrow.Author.Rules.{rules}
use Rattle.capellanote_numbers.proofs.of_reading.Goals as goal

pub returns-in-Read : goal.returns-in-Read
returns-in-Read c = search (rules, read_array)

pub returns-in-Refused : goal.returns-in-Refused
returns-in-Refused c = search (rules, read_array)
