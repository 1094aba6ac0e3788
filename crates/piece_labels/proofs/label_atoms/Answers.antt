-- `piece_labels::label_atoms` meets its contract.
use borrow.Author.Rules.{rules}
use Rattle.piece_labels.proofs.label_atoms.Goals as goal

pub returns : goal.returns
returns c = c.join_all.ensures
