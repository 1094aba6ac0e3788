-- `name_spaced` meets its contract: what follows the spaces stands at the first column that is no space.
use Rattle.std.specs.Prelude.{Some, None}
use borrow.Author.Rules.{rules}
use Rattle.line_text.proofs.Items.{spaced_laws}
use Rattle.line_text.proofs.name_spaced.Goals as goal

pub overflow_sub-k : goal.overflow_sub-k
overflow_sub-k c = search (rules, spaced_laws)

pub name_opened-requires : goal.name_opened-requires
name_opened-requires c = search (rules, spaced_laws)

pub returns-in-Some : goal.returns-in-Some
returns-in-Some c = search (rules, spaced_laws)

pub returns-in-None : goal.returns-in-None
returns-in-None c = search (rules, spaced_laws)
