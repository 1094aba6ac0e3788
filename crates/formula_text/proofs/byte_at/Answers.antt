use Rattle.formula_text.specs.Steps.{past}
use borrow.Author.Rules.{rules}
use Rattle.formula_text.proofs.byte_at.Goals as goal

pub returns : goal.returns
returns c = search (rules, past)
