-- `reader_item::find_with` meets its contract.
use Rattle.reader_item.specs.Hunting.{walked_laws}
use borrow.Author.Rules.{rules}
use Rattle.reader_item.proofs.find_with.Goals as goal

pub hunt-requires : goal.hunt-requires
hunt-requires c = search (rules, walked_laws)

pub returns-in-Refused : goal.returns-in-Refused
returns-in-Refused c = search walked_laws
