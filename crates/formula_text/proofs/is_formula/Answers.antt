use Rattle.formula_text.specs.Steps.{formula_laws}
use borrow.Author.Rules.{rules}
use Rattle.formula_text.proofs.is_formula.Goals as goal

pub returns-in_default : goal.returns-in_default
returns-in_default c = search (rules, formula_laws)

pub returns-then-e-eq0 : goal.returns-then-e-eq0
returns-then-e-eq0 c = search (rules, formula_laws)

pub returns : goal.returns
returns c = search (rules, formula_laws)
