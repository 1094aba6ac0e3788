use Rattle.reader_resume.specs.Laws.{not_laws}
use borrow.Author.Rules.{rules}
use Rattle.reader_resume.proofs.Asked.not_whole.Goals as goal

pub returns-then-no-ne19 : goal.returns-then-no-ne19
returns-then-no-ne19 c = search (rules, not_laws)

pub returns-then-self : goal.returns-then-self
returns-then-self c = search (rules, not_laws)

pub returns-then-len-self : goal.returns-then-len-self
returns-then-len-self c = search (rules, not_laws)

pub returns : goal.returns
returns c = search (rules, not_laws)
