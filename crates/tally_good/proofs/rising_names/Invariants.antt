use Rattle.tally_good.specs.Steps.{Risen}
use Rattle.tally_good.proofs.rising_names.Given as goal

abbrev pub invariant-loop-i : goal.invariant-loop-i
invariant-loop-i l = Risen l.names l.lengths l.used l.i
