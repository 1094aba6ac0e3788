use Rattle.piece_labels.proofs.Loops.{Numbering}
use Rattle.piece_labels.proofs.number.Given as goal

abbrev pub invariant-loop-i : goal.invariant-loop-i
invariant-loop-i l = Numbering l.n l.labels l.i
