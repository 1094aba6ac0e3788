-- `title_line` meets its contract: it goes by whether the line is a data header.
use borrow.Author.Rules.{rules}
use Rattle.line_text.proofs.Items.{title_laws}
use Rattle.line_text.proofs.title_line.Goals as goal

pub returns-in-Named : goal.returns-in-Named
returns-in-Named c = search (rules, title_laws)

pub returns-in-Unnamed : goal.returns-in-Unnamed
returns-in-Unnamed c = search (rules, title_laws)
