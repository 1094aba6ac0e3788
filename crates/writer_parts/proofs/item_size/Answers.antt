-- `writer_parts::item_size` meets its contract.
use borrow.Author.Rules.{rules}
use Rattle.writer_parts.proofs.Sizing.{sized_laws}
use Rattle.writer_parts.proofs.item_size.Goals as goal

pub name_of-name-requires : goal.name_of-name-requires
name_of-name-requires c = search (rules, sized_laws)

pub returns : goal.returns
returns c = search (rules, sized_laws)
