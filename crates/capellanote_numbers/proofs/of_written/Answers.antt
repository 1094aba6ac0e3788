-- `capellanote_numbers::of_written` meets its contract.
use Rattle.capellanote_numbers.specs.Numbers.{written_array}
use borrow.Author.Rules.{rules}
use Rattle.capellanote_numbers.proofs.of_written.Goals as goal

pub returns-in-Ok : goal.returns-in-Ok
returns-in-Ok c = search (rules, written_array)

pub returns-in-Err : goal.returns-in-Err
returns-in-Err c = search (rules, written_array)
