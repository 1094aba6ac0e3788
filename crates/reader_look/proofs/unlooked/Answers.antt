-- `reader_look::unlooked` meets its contract.
use borrow.Author.Rules.{rules}
use Rattle.reader_look.specs.Looking.{unlooked_laws}
use Rattle.reader_look.proofs.unlooked.Goals as goal

pub returns-then-no-eq19 : goal.returns-then-no-eq19
returns-then-no-eq19 c = search (rules, unlooked_laws)

pub returns : goal.returns
returns c = search (rules, unlooked_laws)
