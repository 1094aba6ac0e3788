use Rattle.tally_flat.specs.Steps.{Looking}
use Rattle.tally_flat.proofs.find_in.Given as goal

abbrev pub invariant-loop-i : goal.invariant-loop-i
invariant-loop-i l = Looking l.names l.lengths l.used l.name l.i
