-- `name_to` meets its contract: the name has so many bytes as its positions are apart.
use borrow.Author.Rules.{rules}
use Rattle.line_text.proofs.Names.{name_end_laws}
use Rattle.line_text.proofs.name_to.Goals as goal

pub returns-then-to-from-lt1 : goal.returns-then-to-from-lt1
returns-then-to-from-lt1 c = search (rules, name_end_laws)

pub returns-then-to-from-gt30 : goal.returns-then-to-from-gt30
returns-then-to-from-gt30 c = search (rules, name_end_laws)

pub returns-then-blank_from : goal.returns-then-blank_from
returns-then-blank_from c = search (rules, name_end_laws)

pub returns : goal.returns
returns c = search (rules, name_end_laws)
