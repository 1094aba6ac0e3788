-- `reader_item::values_at` meets its contract.
use borrow.Author.Rules.{rules}
use Prim.Native.Nat.{◌-◌}
use lib.ListN.{length}
use Rattle.reader_item.specs.Passing.{Passing}
use Rattle.reader_item.proofs.Passing.{passing_laws}
use Rattle.reader_item.proofs.values_at.Goals as goal

pub loop-at-init : goal.loop-at-init
loop-at-init c = search (rules, passing_laws)

pub whole_line-line-requires : goal.whole_line-line-requires
whole_line-line-requires c = search (rules, passing_laws)

pub slice_bounds-is_blank-count : goal.slice_bounds-is_blank-count
slice_bounds-is_blank-count c = search (rules, passing_laws)

pub slice_bounds-is_blank-start : goal.slice_bounds-is_blank-start
slice_bounds-is_blank-start c = search (rules, passing_laws)

pub slice_bounds-is_blank-end : goal.slice_bounds-is_blank-end
slice_bounds-is_blank-end c = search (rules, passing_laws)

pub is_blank-requires : goal.is_blank-requires
is_blank-requires c = search (rules, passing_laws)

pub returns-then-is_blank : goal.returns-then-is_blank
returns-then-is_blank c = search (rules, passing_laws)

pub loop-at-smaller : goal.loop-at-smaller
loop-at-smaller c = search (rules, passing_laws)

pub loop-at-preserved : goal.loop-at-preserved
loop-at-preserved c = search (rules, passing_laws)
