-- `arrow_value` meets its contract: it goes by whether the line is a data header.
use borrow.Author.Rules.{rules}
use Rattle.line_text.proofs.Items.{arrow_laws}
use Rattle.line_text.proofs.arrow_value.Goals as goal

pub returns-in-Named : goal.returns-in-Named
returns-in-Named c = search (rules, arrow_laws)

pub returns-in-Unnamed : goal.returns-in-Unnamed
returns-in-Unnamed c = search (rules, arrow_laws)
