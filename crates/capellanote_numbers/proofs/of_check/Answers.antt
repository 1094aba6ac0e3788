-- `capellanote_numbers::of_check` meets its contract.
use Rattle.capellanote_numbers.specs.Numbers.{check_array}
use borrow.Author.Rules.{rules}
use Rattle.capellanote_numbers.proofs.of_check.Goals as goal

pub returns-in-Ok : goal.returns-in-Ok
returns-in-Ok c = search (rules, check_array)

pub returns-in-Err : goal.returns-in-Err
returns-in-Err c = search (rules, check_array)
