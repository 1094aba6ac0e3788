use Rattle.std.proofs.Common.{rules}
use Rattle.piece_labels.proofs.Loops.{numbering_end}
use Rattle.piece_labels.proofs.number.Goals as goal

pub returns : goal.returns
returns c = numbering_end _ _ _ c.loop-i.invariant (search rules) (search rules)
