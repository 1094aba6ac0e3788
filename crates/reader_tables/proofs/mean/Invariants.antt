use Rattle.reader_tables.proofs.Rows.{Meaning}
use Rattle.reader_tables.proofs.mean.Given as goal

abbrev pub invariant-loop-i : goal.invariant-loop-i
invariant-loop-i l = Meaning l.initial.atoms l.atoms l.listed l.over l.n l.i
