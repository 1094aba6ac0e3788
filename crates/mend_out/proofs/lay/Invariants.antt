use Rattle.mend_out.specs.Out.{Laying}
use Rattle.mend_out.proofs.lay.Given as goal

abbrev pub invariant-loop-k : goal.invariant-loop-k
invariant-loop-k l = Laying l.initial.room l.at l.bytes l.room l.k
