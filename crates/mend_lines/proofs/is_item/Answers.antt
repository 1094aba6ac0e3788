use Rattle.mend_lines.specs.Deeds.{line_laws}
use borrow.Author.Rules.{rules}
use Rattle.mend_lines.proofs.is_item.Goals as goal

pub returns-in-Ok : goal.returns-in-Ok
returns-in-Ok c = search (rules, line_laws)

pub returns-in-Err : goal.returns-in-Err
returns-in-Err c = search (rules, line_laws)
