-- `writer_parts_put::put_items` meets its contract.
use borrow.Author.Rules.{rules}
use Prim.Native.Nat.{◌-◌}
use lib.ListN.{length}
use Rattle.writer_parts_put.proofs.Putting.{Putting, items_laws}
use Rattle.writer_parts.specs.Step.{place_of}
use Rattle.writer_parts.specs.declared.Place.{Place}
use Rattle.writer_parts_put.proofs.put_items.Goals as goal

pub loop-i-init : goal.loop-i-init
loop-i-init c = search (rules, items_laws)

pub whole_line-line-requires : goal.whole_line-line-requires
whole_line-line-requires c = search (rules, items_laws)

pub slice_bounds-put_next-count : goal.slice_bounds-put_next-count
slice_bounds-put_next-count c = search (rules, items_laws)

pub slice_bounds-put_next-start : goal.slice_bounds-put_next-start
slice_bounds-put_next-start c = search (rules, items_laws)

pub slice_bounds-put_next-end : goal.slice_bounds-put_next-end
slice_bounds-put_next-end c = search (rules, items_laws)

pub put_next-put-requires : goal.put_next-put-requires
put_next-put-requires c = search (rules, items_laws)

pub loop-i-smaller : goal.loop-i-smaller
loop-i-smaller c = search (rules, items_laws)

pub loop-i-preserved : goal.loop-i-preserved
loop-i-preserved c = search (rules, items_laws)

pub shape_of-room : goal.shape_of-room
shape_of-room c = search (rules, items_laws)

pub returns : goal.returns
returns c = search (rules, items_laws)
