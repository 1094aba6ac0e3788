-- `name_opened` meets its contract: the name follows `<`.
use borrow.Author.Rules.{rules}
use Rattle.line_text.proofs.Names.{opened_laws}
use Rattle.line_text.proofs.name_opened.Goals as goal

pub returns-then-line-at-ne60 : goal.returns-then-line-at-ne60
returns-then-line-at-ne60 c = search (rules, opened_laws)

pub returns : goal.returns
returns c = search (rules, opened_laws)
