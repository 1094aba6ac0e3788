use Rattle.tally_good.specs.Steps.{Adding}
use Rattle.tally_good.proofs.adds_up.Given as goal

abbrev pub invariant-loop-i : goal.invariant-loop-i
invariant-loop-i l = Adding l.counts l.used l.missing l.total l.left l.i
