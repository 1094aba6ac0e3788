use Rattle.store_lots.specs.Looking.{Looking}
use Rattle.store_lots.proofs.find_in.Given as goal

abbrev pub invariant-loop-i : goal.invariant-loop-i
invariant-loop-i l = Looking l.keys l.key l.from l.to l.i
