use Rattle.std.proofs.Common.{◌+◌, ◌*◌}
use Rattle.text.specs.Find.{is_lf}
use Rattle.text.specs.Search.{Passed}
use Rattle.text.proofs.near_lf.Given as goal

abbrev pub invariant-loop-b : goal.invariant-loop-b
invariant-loop-b l = Passed is_lf l.s l.at (l.at + 16 * l.b-counter)
