-- `reader_places::line_judged` meets its contract.
use Rattle.std.specs.Prelude.{Some, None}
use Rattle.reader_places.proofs.Laws.{line_laws}
use borrow.Author.Rules.{rules}
use Rattle.reader_places.proofs.line_judged.Goals as goal

pub returns-then-longest-line : goal.returns-then-longest-line
returns-then-longest-line c = search (rules, line_laws)

pub returns-in-Some : goal.returns-in-Some
returns-in-Some c = search (rules, line_laws)

pub returns-in-None : goal.returns-in-None
returns-in-None c = search (rules, line_laws)
