-- `writer_parts_put::put_value` meets its contract.
use borrow.Author.Rules.{rules}
use Rattle.writer_parts_put.proofs.Laying.{put_value_laws}
use Rattle.writer_parts_put.proofs.put_value.Goals as goal

pub put_line-requires : goal.put_line-requires
put_line-requires c = search (rules, put_value_laws)

pub returns-then-is_blank : goal.returns-then-is_blank
returns-then-is_blank c = search (rules, put_value_laws)

pub put_line-requires-2 : goal.put_line-requires-2
put_line-requires-2 c = search (rules, put_value_laws)

pub returns : goal.returns
returns c = search (rules, put_value_laws)
