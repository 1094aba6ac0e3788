-- `writer_parts::item_turn` meets its contract.
use Rattle.std.proofs.Common.{rules, ap, ◌∙◌, Ok}
use Rattle.writer_parts.proofs.Turns.{item_laws}
use Rattle.writer_parts.proofs.item_turn.Goals as goal

pub overflow_sub-result : goal.overflow_sub-result
overflow_sub-result c = search (rules, item_laws, c.in-Ok-Title.is ∙ ap Ok c.in-Ok-Title.field-0-is)

pub overflow_add-result : goal.overflow_add-result
overflow_add-result c = search (rules, item_laws, c.in-Ok-Title.is ∙ ap Ok c.in-Ok-Title.field-0-is)

pub returns-in-Ok-Title : goal.returns-in-Ok-Title
returns-in-Ok-Title c = search (rules, item_laws, c.in-Ok-Title.is ∙ ap Ok c.in-Ok-Title.field-0-is)

pub returns-in-Ok-Close : goal.returns-in-Ok-Close
returns-in-Ok-Close c = search (rules, item_laws, c.in-Ok-Close.is ∙ ap Ok c.in-Ok-Close.field-0-is)

pub returns-in-Err : goal.returns-in-Err
returns-in-Err c = search (rules, item_laws)
