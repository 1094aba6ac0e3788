use Rattle.compare_tables.specs.SideBySide.{Rowing}
use Rattle.compare_tables.proofs.row_apart.Given as goal

abbrev pub invariant-loop-k : goal.invariant-loop-k
invariant-loop-k l = Rowing l.p l.a l.b l.initial.list l.initial.c l.list l.c l.k
