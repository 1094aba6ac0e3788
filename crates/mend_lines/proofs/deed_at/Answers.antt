use Rattle.mend_lines.specs.Deeds.{deed_laws}
use borrow.Author.Rules.{rules}
use Rattle.mend_lines.proofs.deed_at.Goals as goal

pub returns-then-tail : goal.returns-then-tail
returns-then-tail c = search (rules, deed_laws)

pub returns : goal.returns
returns c = search (rules, deed_laws)
