use Rattle.reader_resume.specs.Laws.{mark_laws}
use borrow.Author.Rules.{rules}
use Rattle.reader_resume.proofs.dollars.Goals as goal

pub returns-then-seen-ge4 : goal.returns-then-seen-ge4
returns-then-seen-ge4 c = search (rules, mark_laws)

pub returns-then-b-eq36 : goal.returns-then-b-eq36
returns-then-b-eq36 c = search (rules, mark_laws)

pub returns : goal.returns
returns c = search (rules, mark_laws)
