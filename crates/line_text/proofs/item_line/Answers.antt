-- `item_line` meets its contract: a line that is no `$$$$` line has to be a title.
use borrow.Author.Rules.{rules}
use Rattle.line_text.proofs.Items.{item_laws}
use Rattle.line_text.proofs.item_line.Goals as goal

pub returns-then-is_close : goal.returns-then-is_close
returns-then-is_close c = search (rules, item_laws)

pub returns : goal.returns
returns c = search (rules, item_laws)
