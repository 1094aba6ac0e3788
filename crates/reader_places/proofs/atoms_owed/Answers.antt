-- `reader_places::atoms_owed` meets its contract.
use Rattle.reader_places.proofs.Laws.{owed_laws}
use borrow.Author.Rules.{rules}
use Rattle.reader_places.proofs.atoms_owed.Goals as goal

pub returns-then-k-eq0 : goal.returns-then-k-eq0
returns-then-k-eq0 c = search (rules, owed_laws)

pub returns : goal.returns
returns c = search (rules, owed_laws)
