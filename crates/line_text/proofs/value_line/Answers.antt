-- `value_line` meets its contract: the first byte leaves one test at most.
use borrow.Author.Rules.{rules}
use Rattle.line_text.proofs.Items.{value_laws}
use Rattle.line_text.proofs.value_line.Goals as goal

pub returns-then-first-eq62 : goal.returns-then-first-eq62
returns-then-first-eq62 c = search (rules, value_laws)

pub returns-then-begins_with : goal.returns-then-begins_with
returns-then-begins_with c = search (rules, value_laws)

pub returns-then-first-eq36 : goal.returns-then-first-eq36
returns-then-first-eq36 c = search (rules, value_laws)

pub returns-then-is_blank : goal.returns-then-is_blank
returns-then-is_blank c = search (rules, value_laws)

pub returns-then-first-eq32 : goal.returns-then-first-eq32
returns-then-first-eq32 c = search (rules, value_laws)

pub returns : goal.returns
returns c = search (rules, value_laws)
