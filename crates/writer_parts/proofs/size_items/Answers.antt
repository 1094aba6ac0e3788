-- `writer_parts::size_items` meets its contract.
use borrow.Author.Rules.{rules}
use Prim.Native.Nat.{◌-◌}
use lib.ListN.{length}
use Rattle.writer_parts.proofs.Sizing.{Sizing, items_laws}
use Rattle.writer_parts.specs.Step.{place_of}
use Rattle.writer_parts.specs.declared.Place.{Place}
use Rattle.writer_parts.proofs.size_items.Goals as goal

pub loop-at-init : goal.loop-at-init
loop-at-init c = search (rules, items_laws)

pub whole_line-line-requires : goal.whole_line-line-requires
whole_line-line-requires c = search (rules, items_laws)

pub slice_bounds-line_size-count : goal.slice_bounds-line_size-count
slice_bounds-line_size-count c = search (rules, items_laws)

pub slice_bounds-line_size-start : goal.slice_bounds-line_size-start
slice_bounds-line_size-start c = search (rules, items_laws)

pub slice_bounds-line_size-end : goal.slice_bounds-line_size-end
slice_bounds-line_size-end c = search (rules, items_laws)

pub line_size-sized-requires : goal.line_size-sized-requires
line_size-sized-requires c = search (rules, items_laws)

pub overflow_add-size : goal.overflow_add-size
overflow_add-size c = search (rules, items_laws)

pub loop-at-smaller : goal.loop-at-smaller
loop-at-smaller c = search (rules, items_laws)

pub loop-at-preserved : goal.loop-at-preserved
loop-at-preserved c = search (rules, items_laws)

pub returns : goal.returns
returns c = search (rules, items_laws)
