-- `is_blank` meets its contract: a line without ink is blank.
use Rattle.std.specs.Prelude.{Some, None}
use borrow.Author.Rules.{rules}
use Rattle.text.proofs.Passing.{blank_laws}
use Rattle.text.proofs.is_blank.Goals as goal

pub returns-in-Some : goal.returns-in-Some
returns-in-Some c = search (rules, blank_laws)

pub returns-in-None : goal.returns-in-None
returns-in-None c = search (rules, blank_laws)
