-- `writer_parts_put::put_headers` meets its contract.
use borrow.Author.Rules.{rules}
use Prim.Native.Nat.{◌-◌}
use lib.ListN.{length}
use Rattle.writer_parts_put.proofs.Putting.{Heading, headers_laws}
use Rattle.writer_parts_put.proofs.put_headers.Goals as goal

pub loop-i-init : goal.loop-i-init
loop-i-init c = search (rules, headers_laws)

pub whole_line-line-requires : goal.whole_line-line-requires
whole_line-line-requires c = search (rules, headers_laws)

pub slice_bounds-put_line-count : goal.slice_bounds-put_line-count
slice_bounds-put_line-count c = search (rules, headers_laws)

pub slice_bounds-put_line-start : goal.slice_bounds-put_line-start
slice_bounds-put_line-start c = search (rules, headers_laws)

pub slice_bounds-put_line-end : goal.slice_bounds-put_line-end
slice_bounds-put_line-end c = search (rules, headers_laws)

pub put_line-e-requires : goal.put_line-e-requires
put_line-e-requires c = search (rules, headers_laws)

pub loop-i-smaller : goal.loop-i-smaller
loop-i-smaller c = search (rules, headers_laws)

pub loop-i-preserved : goal.loop-i-preserved
loop-i-preserved c = search (rules, headers_laws)

pub shape_of-room : goal.shape_of-room
shape_of-room c = search (rules, headers_laws)

pub returns : goal.returns
returns c = search (rules, headers_laws)
