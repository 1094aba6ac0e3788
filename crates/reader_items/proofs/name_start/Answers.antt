-- `reader_items::name_start` meets its contract.
use Rattle.std.specs.Prelude.{Some, None}
use Rattle.reader_items.specs.Titles.{start_laws}
use borrow.Author.Rules.{rules}
use Rattle.reader_items.proofs.name_start.Goals as goal

pub returns-in-Some : goal.returns-in-Some
returns-in-Some c = search (rules, start_laws)

pub returns-in-None : goal.returns-in-None
returns-in-None c = search (rules, start_laws)
