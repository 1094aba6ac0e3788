-- `field_symbols::symbol_of` meets its contract.
use borrow.Author.Rules.{rules}
use Rattle.field_symbols.proofs.Codes.{usual_laws}
use Rattle.field_symbols.proofs.symbol_of.Goals as goal

pub returns-then-code-eq2105411 : goal.returns-then-code-eq2105411
returns-then-code-eq2105411 c = search (rules, usual_laws)

pub returns-then-code-eq2105422 : goal.returns-then-code-eq2105422
returns-then-code-eq2105422 c = search (rules, usual_laws)

pub returns-then-code-eq2105423 : goal.returns-then-code-eq2105423
returns-then-code-eq2105423 c = search (rules, usual_laws)
