use Rattle.reader_resume.specs.Laws.{byte_laws}
use borrow.Author.Rules.{rules}
use Rattle.reader_resume.proofs.Passing.line_end.Goals as goal

pub returns-then-self-gt1 : goal.returns-then-self-gt1
returns-then-self-gt1 c = search (rules, byte_laws)

pub returns-then-self-eq4 : goal.returns-then-self-eq4
returns-then-self-eq4 c = search (rules, byte_laws)

pub returns : goal.returns
returns c = search (rules, byte_laws)
