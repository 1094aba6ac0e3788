-- `reader_look::items_start` meets its contract.
use borrow.Author.Rules.{rules}
use Prim.Native.Nat.{◌-◌}
use lib.ListN.{length}
use Rattle.reader_look.specs.Looking.{Reaching, reaching_laws}
use Rattle.reader_look.proofs.items_start.Goals as goal

pub loop-end-init : goal.loop-end-init
loop-end-init c = search (rules, reaching_laws)

pub line_at-requires : goal.line_at-requires
line_at-requires c = search (rules, reaching_laws)

pub enum_known-end : goal.enum_known-end
enum_known-end c = search (rules, reaching_laws)

pub enum_told-1 : goal.enum_told-1
enum_told-1 c = search (rules, reaching_laws)

pub returns-in_default : goal.returns-in_default
returns-in_default c = search (rules, reaching_laws)

pub slice_bounds-begins_item-count : goal.slice_bounds-begins_item-count
slice_bounds-begins_item-count c = search (rules, reaching_laws)

pub slice_bounds-begins_item-start : goal.slice_bounds-begins_item-start
slice_bounds-begins_item-start c = search (rules, reaching_laws)

pub slice_bounds-begins_item-end : goal.slice_bounds-begins_item-end
slice_bounds-begins_item-end c = search (rules, reaching_laws)

pub begins_item-requires : goal.begins_item-requires
begins_item-requires c = search (rules, reaching_laws)

pub returns-then-begins_item : goal.returns-then-begins_item
returns-then-begins_item c = search (rules, reaching_laws)

pub overflow_add-lines : goal.overflow_add-lines
overflow_add-lines c = search (rules, reaching_laws)

pub loop-end-smaller : goal.loop-end-smaller
loop-end-smaller c = search (rules, reaching_laws)

pub loop-end-preserved : goal.loop-end-preserved
loop-end-preserved c = search (rules, reaching_laws)
