use borrow.Author.Rules.{rules}
use Rattle.formula_sums.specs.Adds.{numbers}
use Rattle.formula_sums.proofs.capped.Goals as goal

pub returns-then-n-le10000 : goal.returns-then-n-le10000
returns-then-n-le10000 c = search (rules, numbers)

pub returns : goal.returns
returns c = search (rules, numbers)
