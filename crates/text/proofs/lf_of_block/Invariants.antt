use Rattle.std.proofs.Common.{◌+◌}
use Rattle.text.specs.Find.{is_lf}
use Rattle.text.specs.Search.{Passed}
use Rattle.text.proofs.lf_of_block.Given as goal

abbrev pub invariant-loop-k : goal.invariant-loop-k
invariant-loop-k l = Passed is_lf l.s l.at (l.at + l.k)
