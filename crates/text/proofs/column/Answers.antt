-- `column` meets its contract: a byte of the line, or the space past its end.
use borrow.Author.Rules.{rules}
use Rattle.text.proofs.Texts.{column_laws}
use Rattle.text.proofs.column.Goals as goal

pub returns-then-k-line : goal.returns-then-k-line
returns-then-k-line c = search (rules, column_laws)

pub returns-else-k-line : goal.returns-else-k-line
returns-else-k-line c = search (rules, column_laws)
