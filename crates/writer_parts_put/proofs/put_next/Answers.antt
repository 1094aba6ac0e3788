-- `writer_parts_put::put_next` meets its contract.
use borrow.Author.Rules.{rules}
use Rattle.writer_parts_put.proofs.Laying.{put_next_laws}
use Rattle.writer_parts_put.proofs.put_next.Goals as goal

pub put_value-requires : goal.put_value-requires
put_value-requires c = search (rules, put_next_laws)

pub returns-then-inside : goal.returns-then-inside
returns-then-inside c = search (rules, put_next_laws)

pub put_item-requires : goal.put_item-requires
put_item-requires c = search (rules, put_next_laws)

pub returns : goal.returns
returns c = search (rules, put_next_laws)
