-- `blank_from` meets its contract: the rest of the line is blank.
use borrow.Author.Rules.{rules}
use Rattle.line_text.proofs.Tags.{blank_tail}
use Rattle.line_text.proofs.blank_from.Goals as goal

pub returns : goal.returns
returns c = search (rules, blank_tail)
