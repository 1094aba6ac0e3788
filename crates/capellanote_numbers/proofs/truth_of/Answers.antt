-- `capellanote_numbers::truth_of` meets its contract.
use Rattle.capellanote_numbers.specs.Numbers.{truth_laws}
use borrow.Author.Rules.{rules}
use Rattle.capellanote_numbers.proofs.truth_of.Goals as goal

pub returns-then-b-eq0 : goal.returns-then-b-eq0
returns-then-b-eq0 c = search (rules, truth_laws)

pub returns : goal.returns
returns c = search (rules, truth_laws)
