-- `is_tagged` meets its contract: each tag is held against the line in turn.
use borrow.Author.Rules.{rules}
use Rattle.line_text.proofs.Tags.{tagged_laws}
use Rattle.line_text.proofs.is_tagged.Goals as goal

pub returns-then-begins_with : goal.returns-then-begins_with
returns-then-begins_with c = search (rules, tagged_laws)

pub returns-then-begins_with-2 : goal.returns-then-begins_with-2
returns-then-begins_with-2 c = search (rules, tagged_laws)

pub returns-then-begins_with-3 : goal.returns-then-begins_with-3
returns-then-begins_with-3 c = search (rules, tagged_laws)

pub returns : goal.returns
returns c = search (rules, tagged_laws)
