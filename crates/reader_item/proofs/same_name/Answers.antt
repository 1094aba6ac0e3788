-- `reader_item::same_name` meets its contract.
use Rattle.reader_item.specs.Passing.{name_laws}
use borrow.Author.Rules.{rules}
use Rattle.reader_item.proofs.same_name.Goals as goal

pub returns-then-found-name : goal.returns-then-found-name
returns-then-found-name c = search (rules, name_laws)

pub returns : goal.returns
returns c = search (rules, name_laws)
