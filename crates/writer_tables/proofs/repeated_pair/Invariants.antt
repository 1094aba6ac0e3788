use Rattle.writer_tables.proofs.Pairs.{Walk, Search}
use Rattle.writer_tables.proofs.repeated_pair.Given as goal

abbrev pub invariant-loop-j : goal.invariant-loop-j
invariant-loop-j l = Search l.bonds l.m l.keys l.key l.i l.j

abbrev pub invariant-loop-i : goal.invariant-loop-i
invariant-loop-i l = Walk l.bonds l.m l.keys l.i
