use Rattle.formula_sums.specs.Adds.{numbers}
use borrow.Author.Rules.{rules}
use Rattle.formula_sums.proofs.times_count.Goals as goal

pub overflow_mul-times : goal.overflow_mul-times
overflow_mul-times c = search (rules, numbers)
