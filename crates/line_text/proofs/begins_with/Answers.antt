-- `begins_with` meets its contract: the tag has no space, so columns past the end of the line are none of it.
use borrow.Author.Rules.{rules}
use Rattle.line_text.proofs.Tags.{begins_got}
use Rattle.line_text.proofs.begins_with.Goals as goal

pub returns : goal.returns
returns c = search (rules, begins_got)
