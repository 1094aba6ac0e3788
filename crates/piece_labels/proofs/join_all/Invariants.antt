use Rattle.piece_labels.proofs.Loops.{Joining}
use Rattle.piece_labels.proofs.join_all.Given as goal

abbrev pub invariant-loop-k : goal.invariant-loop-k
invariant-loop-k l = Joining l.n l.m l.bonds l.labels l.k
