use Rattle.capellanote.specs.Tally.{tallied_array}
use borrow.Author.Rules.{rules}
use Rattle.capellanote.proofs.tally.of_tallied.Goals as goal

pub returns-in-Done : goal.returns-in-Done
returns-in-Done c = search (rules, tallied_array)

pub returns-in-Refused : goal.returns-in-Refused
returns-in-Refused c = search (rules, tallied_array)
