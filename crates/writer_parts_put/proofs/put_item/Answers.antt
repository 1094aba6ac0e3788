-- `writer_parts_put::put_item` meets its contract.
use borrow.Author.Rules.{rules}
use Rattle.writer_parts_put.proofs.Laying.{put_item_laws}
use Rattle.writer_parts_put.proofs.put_item.Goals as goal

pub name_of-name-requires : goal.name_of-name-requires
name_of-name-requires c = search (rules, put_item_laws)

pub put_title-requires : goal.put_title-requires
put_title-requires c = search (rules, put_item_laws)

pub returns : goal.returns
returns c = search (rules, put_item_laws)
