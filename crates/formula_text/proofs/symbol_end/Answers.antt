use Rattle.formula_text.specs.Steps.{element_laws}
use borrow.Author.Rules.{rules}
use Rattle.formula_text.proofs.symbol_end.Goals as goal

pub returns-then-in_range : goal.returns-then-in_range
returns-then-in_range c = search (rules, element_laws)

pub returns : goal.returns
returns c = search (rules, element_laws)
