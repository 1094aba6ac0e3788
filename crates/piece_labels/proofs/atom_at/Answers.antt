-- `piece_labels::atom_at` meets its contract.
use Rattle.piece_labels.proofs.Atoms.{atom_cast, atom_read}
use borrow.Author.Rules.{rules}
use Rattle.piece_labels.proofs.atom_at.Goals as goal

pub overflow_cast-result : goal.overflow_cast-result
overflow_cast-result c = atom_cast _ _ _ c.requires.2 c.requires.0

pub returns : goal.returns
returns c = atom_read _ _ _ c.requires.2 c.requires.0
