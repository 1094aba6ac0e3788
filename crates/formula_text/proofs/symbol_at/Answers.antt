use Rattle.formula_text.specs.Steps.{symbol_laws}
use borrow.Author.Rules.{rules}
use Rattle.formula_text.proofs.symbol_at.Goals as goal

pub returns-then-k-eq0 : goal.returns-then-k-eq0
returns-then-k-eq0 c = search (rules, symbol_laws)

pub count_at-requires : goal.count_at-requires
count_at-requires c = search (rules, symbol_laws)

pub returns : goal.returns
returns c = search (rules, symbol_laws)
