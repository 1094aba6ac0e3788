use Rattle.std.proofs.Common.{◌-◌}
use Rattle.text.specs.Find.{is_ink}
use Rattle.text.specs.Search.{Passed}
use Rattle.text.proofs.ink_column.Given as goal

abbrev pub invariant-loop-k : goal.invariant-loop-k
invariant-loop-k l = Passed is_ink l.line (l.i - 1) l.k
