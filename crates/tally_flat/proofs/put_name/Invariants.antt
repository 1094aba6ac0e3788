use Rattle.tally_flat.specs.Steps.{Putting}
use Rattle.tally_flat.proofs.put_name.Given as goal

abbrev pub invariant-loop-j : goal.invariant-loop-j
invariant-loop-j l = Putting l.at l.name l.initial.names l.names l.j
