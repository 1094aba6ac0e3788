use Rattle.formula_drawn.specs.Tallying.{symbol_laws}
use borrow.Author.Rules.{rules}
use Rattle.formula_drawn.proofs.symbol_of.Goals as goal

pub returns-then-v-lt0 : goal.returns-then-v-lt0
returns-then-v-lt0 c = search (rules, symbol_laws)

pub overflow_cast-result : goal.overflow_cast-result
overflow_cast-result c = search (rules, symbol_laws)

pub returns : goal.returns
returns c = search (rules, symbol_laws)
