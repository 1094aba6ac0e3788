use borrow.Author.Rules.{rules}
use Rattle.formula_sums.specs.Adds.{values}
use Rattle.formula_text.specs.Steps.{end_within}
use Rattle.formula_sums.proofs.symbol_count.Goals as goal

pub symbol_end-e-requires : goal.symbol_end-e-requires
symbol_end-e-requires c = search (rules, values, end_within)

pub count_value-requires : goal.count_value-requires
count_value-requires c = search (rules, values, end_within)

pub returns : goal.returns
returns c = search (rules, values, end_within)
