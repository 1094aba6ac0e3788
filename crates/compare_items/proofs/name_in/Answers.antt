use Rattle.std.proofs.Common.{rules, ap, ◌∙◌, Ok}
use Rattle.compare_items.specs.Items.{name_laws}
use Rattle.compare_items.proofs.name_in.Goals as goal

pub returns-in-Ok-Title : goal.returns-in-Ok-Title
returns-in-Ok-Title c = search (rules, name_laws, c.in-Ok-Title.is ∙ ap Ok c.in-Ok-Title.field-0-is)

pub returns-in-Ok-Close : goal.returns-in-Ok-Close
returns-in-Ok-Close c = search (rules, name_laws, c.in-Ok-Close.is ∙ ap Ok c.in-Ok-Close.field-0-is)

pub returns-in-Err : goal.returns-in-Err
returns-in-Err c = search (rules, name_laws)
