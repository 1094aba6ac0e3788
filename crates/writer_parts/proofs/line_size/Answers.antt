-- `writer_parts::line_size` meets its contract.
use borrow.Author.Rules.{rules}
use Rattle.writer_parts.proofs.Sizing.{place_laws}
use Rattle.writer_parts.proofs.line_size.Goals as goal

pub value_size-requires : goal.value_size-requires
value_size-requires c = search (rules, place_laws)

pub returns-then-inside : goal.returns-then-inside
returns-then-inside c = search (rules, place_laws)

pub item_size-requires : goal.item_size-requires
item_size-requires c = search (rules, place_laws)

pub returns : goal.returns
returns c = search (rules, place_laws)
