-- `is_close` meets its contract: four `$`, and a blank rest.
use borrow.Author.Rules.{rules}
use Rattle.line_text.proofs.Items.{close_laws}
use Rattle.line_text.proofs.is_close.Goals as goal

pub blank_from-requires : goal.blank_from-requires
blank_from-requires c = search (rules, close_laws)

pub returns-then-begins_with : goal.returns-then-begins_with
returns-then-begins_with c = search (rules, close_laws)

pub returns : goal.returns
returns c = search (rules, close_laws)
