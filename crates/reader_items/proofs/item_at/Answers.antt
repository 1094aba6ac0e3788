-- `reader_items::item_at` meets its contract.
use Rattle.reader_items.proofs.Agree.{step_laws}
use Rattle.std.proofs.Common.{rules, ap, ◌∙◌, Ok}
use Rattle.reader_items.proofs.item_at.Goals as goal

pub returns-in_default : goal.returns-in_default
returns-in_default c = search (rules, step_laws)

pub slice_bounds-title_at-count : goal.slice_bounds-title_at-count
slice_bounds-title_at-count c = search (rules, step_laws)

pub slice_bounds-title_at-start : goal.slice_bounds-title_at-start
slice_bounds-title_at-start c = search (rules, step_laws)

pub slice_bounds-title_at-end : goal.slice_bounds-title_at-end
slice_bounds-title_at-end c = search (rules, step_laws)

pub overflow_add-at : goal.overflow_add-at
overflow_add-at c = search (rules, step_laws, c.in-Ok-Title.is ∙ ap Ok c.in-Ok-Title.field-0-is)

pub overflow_add-at-in-Ok-Title : goal.overflow_add-at-in-Ok-Title
overflow_add-at-in-Ok-Title c = search (rules, step_laws, c.in-Ok-Title.is ∙ ap Ok c.in-Ok-Title.field-0-is)

pub returns-in-Ok-Title : goal.returns-in-Ok-Title
returns-in-Ok-Title c = search (rules, step_laws, c.in-Ok-Title.is ∙ ap Ok c.in-Ok-Title.field-0-is)

pub returns-in-Ok-Close : goal.returns-in-Ok-Close
returns-in-Ok-Close c = search (rules, step_laws, c.in-Ok-Close.is ∙ ap Ok c.in-Ok-Close.field-0-is)

pub returns-in-Err : goal.returns-in-Err
returns-in-Err c = search (rules, step_laws)
