use Rattle.mend_file.specs.Mending.{Mending, turns}
use Rattle.mend_file.proofs.walk_lines.Given as goal

abbrev pub invariant-loop-m : goal.invariant-loop-m
invariant-loop-m l = Mending l.s l.initial.room l.initial.list l.judge l.m l.tail l.room l.list l.listed l.keys

abbrev pub decreases-loop-m : goal.decreases-loop-m
decreases-loop-m l = turns l.s l.judge l.m l.tail
