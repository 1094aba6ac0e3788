use Rattle.tally_flat.specs.Steps.{Moving}
use Rattle.tally_flat.proofs.move_numbers.Given as goal

abbrev pub invariant-loop-j : goal.invariant-loop-j
invariant-loop-j l = Moving 1 l.k l.from l.initial.numbers l.numbers l.j
