use Rattle.formula_text.specs.Steps.{element_laws}
use borrow.Author.Rules.{rules}
use Rattle.formula_text.proofs.element_of.Goals as goal

pub returns-in_default : goal.returns-in_default
returns-in_default c = search (rules, element_laws)

pub returns-then-k-le-ELEMENTS : goal.returns-then-k-le-ELEMENTS
returns-then-k-le-ELEMENTS c = search (rules, element_laws)

pub returns : goal.returns
returns c = search (rules, element_laws)
