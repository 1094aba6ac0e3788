use Rattle.capellanote.specs.Tally.{totals_array}
use borrow.Author.Rules.{rules}
use Rattle.capellanote.proofs.tally.of_totals.Goals as goal

pub returns-in-Done : goal.returns-in-Done
returns-in-Done c = search (rules, totals_array)

pub returns-in-Refused : goal.returns-in-Refused
returns-in-Refused c = search (rules, totals_array)
