use Rattle.capellanote.specs.Mend.{mend_array}
use borrow.Author.Rules.{rules}
use Rattle.capellanote.proofs.mend.of_mended.Goals as goal

pub returns-in-Done : goal.returns-in-Done
returns-in-Done c = search (rules, mend_array)

pub returns-in-Refused : goal.returns-in-Refused
returns-in-Refused c = search (rules, mend_array)
