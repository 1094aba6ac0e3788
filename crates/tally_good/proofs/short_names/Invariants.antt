use Rattle.tally_good.specs.Steps.{Shorts}
use Rattle.tally_good.proofs.short_names.Given as goal

abbrev pub invariant-loop-i : goal.invariant-loop-i
invariant-loop-i l = Shorts l.lengths l.used l.i
