use Rattle.mend_lines.specs.Deeds.{deed_laws}
use borrow.Author.Rules.{rules}
use Rattle.mend_lines.proofs.at_values.Goals as goal

pub returns-then-is_item : goal.returns-then-is_item
returns-then-is_item c = search (rules, deed_laws)

pub returns : goal.returns
returns c = search (rules, deed_laws)
