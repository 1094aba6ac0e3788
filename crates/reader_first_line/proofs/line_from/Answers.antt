use Rattle.reader_first_line.specs.Agree.{line_laws}
use borrow.Author.Rules.{rules}
use Rattle.reader_first_line.proofs.line_from.Goals as goal

pub returns-then-to-eq0 : goal.returns-then-to-eq0
returns-then-to-eq0 c = search (rules, line_laws)

pub returns-in_default : goal.returns-in_default
returns-in_default c = search (rules, line_laws)

pub returns : goal.returns
returns c = search (rules, line_laws)
