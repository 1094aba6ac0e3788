use Rattle.capellanote.specs.Formula.{compared_array}
use borrow.Author.Rules.{rules}
use Rattle.capellanote.proofs.formula.of_compared.Goals as goal

pub returns-in-Ok : goal.returns-in-Ok
returns-in-Ok c = search (rules, compared_array)

pub returns-in-Err : goal.returns-in-Err
returns-in-Err c = search (rules, compared_array)
