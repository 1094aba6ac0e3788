-- `reader_file::read_on` meets its contract.
use borrow.Author.Rules.{rules}
use Rattle.reader_file.specs.Stepping.{place_laws}
use Rattle.reader_file.proofs.read_on.Goals as goal

pub returns-then-s-cursor : goal.returns-then-s-cursor
returns-then-s-cursor c = search (rules, place_laws)

pub returns-then-cursor : goal.returns-then-cursor
returns-then-cursor c = search (rules, place_laws)

pub returns-then-cursor-2 : goal.returns-then-cursor-2
returns-then-cursor-2 c = search (rules, place_laws)

pub returns : goal.returns
returns c = search (rules, place_laws)
