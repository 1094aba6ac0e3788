use Rattle.std.proofs.Common.{◌*◌}
use Rattle.text.specs.Find.{is_bad}
use Rattle.text.specs.Search.{Passed}
use Rattle.text.proofs.near_bad.Given as goal

abbrev pub invariant-loop-b : goal.invariant-loop-b
invariant-loop-b l = Passed is_bad l.line 0 (16 * l.b)
