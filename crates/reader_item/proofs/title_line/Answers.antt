-- `reader_item::title_line` meets its contract.
use Rattle.reader_item.specs.Passing.{title_laws}
use borrow.Author.Rules.{rules}
use Rattle.reader_item.proofs.title_line.Goals as goal

pub returns-then-is_end : goal.returns-then-is_end
returns-then-is_end c = search (rules, title_laws)

pub name_of-found-requires : goal.name_of-found-requires
name_of-found-requires c = search (rules, title_laws)

pub returns-then-same_name : goal.returns-then-same_name
returns-then-same_name c = search (rules, title_laws)

pub returns : goal.returns
returns c = search (rules, title_laws)
