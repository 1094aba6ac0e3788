-- `reader_places::bonds_owed` meets its contract.
use borrow.Author.Rules.{rules}
use Rattle.reader_places.proofs.Laws.{owed_laws}
use Rattle.reader_places.proofs.bonds_owed.Goals as goal

pub returns-then-k-eq0 : goal.returns-then-k-eq0
returns-then-k-eq0 c = search (rules, owed_laws)

pub returns : goal.returns
returns c = search (rules, owed_laws)
