use Rattle.reader_resume.specs.Laws.{byte_laws}
use borrow.Author.Rules.{rules}
use Rattle.reader_resume.proofs.Passing.byte.Goals as goal

pub returns-then-b-eq10 : goal.returns-then-b-eq10
returns-then-b-eq10 c = search (rules, byte_laws)

pub returns : goal.returns
returns c = search (rules, byte_laws)
