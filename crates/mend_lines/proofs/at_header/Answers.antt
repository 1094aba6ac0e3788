use Rattle.mend_lines.specs.Deeds.{deed_laws}
use borrow.Author.Rules.{rules}
use Rattle.mend_lines.proofs.at_header.Goals as goal

pub returns-then-owed-ne3 : goal.returns-then-owed-ne3
returns-then-owed-ne3 c = search (rules, deed_laws)

pub returns-then-blank_from : goal.returns-then-blank_from
returns-then-blank_from c = search (rules, deed_laws)

pub returns-then-some : goal.returns-then-some
returns-then-some c = search (rules, deed_laws)

pub returns : goal.returns
returns c = search (rules, deed_laws)
