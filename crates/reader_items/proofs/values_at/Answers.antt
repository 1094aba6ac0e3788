-- `reader_items::values_at` meets its contract.
use Rattle.std.proofs.Common.{rules, ap, ◌∙◌, Ok}
use Prim.Native.Nat.{◌-◌}
use lib.ListN.{length}
use Rattle.reader_items.specs.Running.{Running}
use Rattle.reader_items.proofs.Running.{running_laws}
use Rattle.reader_items.proofs.values_at.Goals as goal

pub loop-end-init : goal.loop-end-init
loop-end-init c = search (rules, running_laws)

pub line_at-requires : goal.line_at-requires
line_at-requires c = search (rules, running_laws)

pub returns-in_default : goal.returns-in_default
returns-in_default c = search (rules, running_laws)

pub slice_bounds-value_at-count : goal.slice_bounds-value_at-count
slice_bounds-value_at-count c = search (rules, running_laws)

pub slice_bounds-value_at-start : goal.slice_bounds-value_at-start
slice_bounds-value_at-start c = search (rules, running_laws)

pub slice_bounds-value_at-end : goal.slice_bounds-value_at-end
slice_bounds-value_at-end c = search (rules, running_laws)

pub value_at-requires : goal.value_at-requires
value_at-requires c = search (rules, running_laws)

pub overflow_add-line : goal.overflow_add-line
overflow_add-line c = search (rules, running_laws)

pub loop-end-smaller : goal.loop-end-smaller
loop-end-smaller c = search (rules, running_laws)

pub loop-end-preserved : goal.loop-end-preserved
loop-end-preserved c = search (rules, running_laws, c.in-Ok-Value.is ∙ ap Ok c.in-Ok-Value.field-0-is)

pub returns-in-Ok-Blank : goal.returns-in-Ok-Blank
returns-in-Ok-Blank c = search (rules, running_laws, c.in-Ok-Blank.is ∙ ap Ok c.in-Ok-Blank.field-0-is)

pub returns-in-Err : goal.returns-in-Err
returns-in-Err c = search (rules, running_laws)
