-- `reader_cursor::Cursor::stop` meets its contract.
use borrow.Author.Rules.{rules}
use Rattle.reader_cursor.specs.FileWalk.{step_laws}
use Rattle.reader_cursor.proofs.Cursor.stop.Goals as goal

pub returns-then-no-eq19 : goal.returns-then-no-eq19
returns-then-no-eq19 c = search (rules, step_laws)

pub returns : goal.returns
returns c = search (rules, step_laws)
