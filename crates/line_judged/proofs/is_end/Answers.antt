-- `line_judged::is_end` meets its contract.
use borrow.Author.Rules.{rules}
use Rattle.line_judged.proofs.Looking.{end_laws}
use Rattle.line_judged.proofs.is_end.Goals as goal

pub returns-then-column-eq36 : goal.returns-then-column-eq36
returns-then-column-eq36 c = search (rules, end_laws)

pub returns : goal.returns
returns c = search (rules, end_laws)
