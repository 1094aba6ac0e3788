use Rattle.text.specs.Find.{is_lf}
use Rattle.text.specs.Search.{Passed}
use Rattle.text.proofs.find_lf.Given as goal

abbrev pub invariant-loop-i : goal.invariant-loop-i
invariant-loop-i l = Passed is_lf l.s l.at l.i
