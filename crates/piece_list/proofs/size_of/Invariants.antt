use Rattle.std.proofs.Common.{◌+◌}
use Rattle.piece_list.proofs.Gathering.{Gathering}
use Rattle.piece_list.proofs.size_of.Given as goal

abbrev pub invariant-loop-j : goal.invariant-loop-j
invariant-loop-j l = Gathering l.labels l.n (l.i + 1) l.atoms l.j
