use Rattle.piece_labels.proofs.Loops.{Moving}
use Rattle.piece_labels.proofs.relabel.Given as goal

abbrev pub invariant-loop-i : goal.invariant-loop-i
invariant-loop-i l = Moving l.n l.high l.low l.initial.labels l.labels l.i
