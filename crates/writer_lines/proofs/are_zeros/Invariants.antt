use Rattle.writer_lines.specs.Zeros.{Looking}
use Rattle.writer_lines.proofs.are_zeros.Given as goal

abbrev pub invariant-loop-k : goal.invariant-loop-k
invariant-loop-k l = Looking l.row l.i l.e l.k l.zeros
