use Rattle.tally_flat.specs.Steps.{Moving}
use Rattle.tally_rules.specs.Tally.{longest}
use Rattle.tally_flat.proofs.move_names.Given as goal

abbrev pub invariant-loop-j : goal.invariant-loop-j
invariant-loop-j l = Moving longest l.k l.from l.initial.names l.names l.j
