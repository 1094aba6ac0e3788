-- `tag_at` meets its contract: a byte that is no `$` starts no tag.
use borrow.Author.Rules.{rules}
use Rattle.line_text.proofs.Tags.{tag_other, tag_tail}
use Rattle.line_text.proofs.tag_at.Goals as goal

pub returns-then-line-i-ne36 : goal.returns-then-line-i-ne36
returns-then-line-i-ne36 c = search (rules, tag_other, tag_tail)

pub returns : goal.returns
returns c = search (rules, tag_other, tag_tail)
