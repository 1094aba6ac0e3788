use Rattle.text.specs.Find.{is_bad}
use Rattle.text.specs.Search.{Passed}
use Rattle.text.proofs.bad_column.Given as goal

abbrev pub invariant-loop-i : goal.invariant-loop-i
invariant-loop-i l = Passed is_bad l.line 0 l.i
