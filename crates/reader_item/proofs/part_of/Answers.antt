-- `reader_item::part_of` meets its contract.
use Rattle.reader_item.specs.Hunting.{stretch_laws}
use borrow.Author.Rules.{rules}
use Rattle.reader_item.proofs.part_of.Goals as goal

pub returns-in-Item : goal.returns-in-Item
returns-in-Item c = search (rules, stretch_laws)

pub returns-in-Refused : goal.returns-in-Refused
returns-in-Refused c = search (rules, stretch_laws)
