-- `writer_parts::value_turn` meets its contract.
use Rattle.std.proofs.Common.{rules, ap, ◌∙◌, Ok}
use Rattle.writer_parts.proofs.Turns.{value_laws}
use Rattle.writer_parts.proofs.value_turn.Goals as goal

pub returns-in-Ok-Value : goal.returns-in-Ok-Value
returns-in-Ok-Value c = search (rules, value_laws, c.in-Ok-Value.is ∙ ap Ok c.in-Ok-Value.field-0-is)

pub returns-in-Ok-Blank : goal.returns-in-Ok-Blank
returns-in-Ok-Blank c = search (rules, value_laws, c.in-Ok-Blank.is ∙ ap Ok c.in-Ok-Blank.field-0-is)

pub returns-in-Err : goal.returns-in-Err
returns-in-Err c = search (rules, value_laws)
