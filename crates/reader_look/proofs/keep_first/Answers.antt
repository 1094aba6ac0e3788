-- `reader_look::keep_first` meets its contract.
use Rattle.reader_look.proofs.Looking.{keep_laws}
use borrow.Author.Rules.{rules}
use Rattle.reader_look.proofs.keep_first.Goals as goal

pub returns-in-At : goal.returns-in-At
returns-in-At c = search (rules, keep_laws)

pub returns-in-Nowhere : goal.returns-in-Nowhere
returns-in-Nowhere c = search (rules, keep_laws)
