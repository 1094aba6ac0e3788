use Rattle.mend_lines.specs.Deeds.{deed_laws}
use borrow.Author.Rules.{rules}
use Rattle.mend_lines.proofs.at_items.Goals as goal

pub returns-then-is_blank : goal.returns-then-is_blank
returns-then-is_blank c = search (rules, deed_laws)

pub returns : goal.returns
returns c = search (rules, deed_laws)
