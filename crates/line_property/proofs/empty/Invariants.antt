use Rattle.line_property.specs.Emptied.{Emptying}
use Rattle.line_property.proofs.empty.Given as goal

abbrev pub invariant-loop-k : goal.invariant-loop-k
invariant-loop-k l = Emptying l.n l.k l.initial.listed l.listed
