use Rattle.compare_tables.specs.SideBySide.{Tabling}
use Rattle.compare_tables.proofs.table_apart.Given as goal

abbrev pub invariant-loop-i : goal.invariant-loop-i
invariant-loop-i l = Tabling l.p l.width l.n l.a l.b l.initial.list l.initial.c l.list l.c l.i
