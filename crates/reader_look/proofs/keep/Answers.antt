-- `reader_look::keep` meets its contract.
use Rattle.reader_look.proofs.Looking.{keep_laws}
use borrow.Author.Rules.{rules}
use Rattle.reader_look.proofs.keep.Goals as goal

pub returns-then-named : goal.returns-then-named
returns-then-named c = search (rules, keep_laws)

pub returns : goal.returns
returns c = search (rules, keep_laws)
