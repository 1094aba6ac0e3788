-- `data_header` meets its contract: the first two columns are `>` and a space.
use borrow.Author.Rules.{rules}
use Rattle.line_text.proofs.Items.{header_laws}
use Rattle.line_text.proofs.data_header.Goals as goal

pub returns-then-line-gt80 : goal.returns-then-line-gt80
returns-then-line-gt80 c = search (rules, header_laws)

pub returns-then-column-ne62 : goal.returns-then-column-ne62
returns-then-column-ne62 c = search (rules, header_laws)

pub returns-then-column-ne32 : goal.returns-then-column-ne32
returns-then-column-ne32 c = search (rules, header_laws)

pub returns : goal.returns
returns c = search (rules, header_laws)
