-- `piece_labels::join` meets its contract.
use Rattle.piece_labels.proofs.Loops.{moved_ends}
use borrow.Author.Rules.{rules}
use Rattle.piece_labels.proofs.join.Goals as goal

pub returns : goal.returns
returns c = moved_ends _ _ _ _ _ _ _ c.higher.ensures c.lower.ensures c.relabel.ensures
