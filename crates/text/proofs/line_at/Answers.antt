-- `line_at` meets its contract: the line goes by where its LF is found.
use Rattle.std.specs.Prelude.{Some, None}
use borrow.Author.Rules.{rules}
use Rattle.text.proofs.Passing.{line_laws}
use Rattle.text.proofs.line_at.Goals as goal

pub line_to-requires : goal.line_to-requires
line_to-requires c = search (rules, line_laws)

pub returns-in-Some : goal.returns-in-Some
returns-in-Some c = search (rules, line_laws)

pub returns-in-None : goal.returns-in-None
returns-in-None c = search (rules, line_laws)
