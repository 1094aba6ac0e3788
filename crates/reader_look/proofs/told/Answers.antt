-- `reader_look::told` meets its contract.
use Rattle.reader_look.specs.Looking.{looked_laws}
use borrow.Author.Rules.{rules}
use Rattle.reader_look.proofs.told.Goals as goal

pub returns-in-At : goal.returns-in-At
returns-in-At c = search (rules, looked_laws)

pub returns-in-Nowhere : goal.returns-in-Nowhere
returns-in-Nowhere c = search (rules, looked_laws)
