use Rattle.std.proofs.Common.{◌*◌}
use Rattle.store_lots.specs.Looking.{Looking}
use Rattle.store_lots.proofs.find_lot.Given as goal

abbrev pub invariant-loop-b : goal.invariant-loop-b
invariant-loop-b l = Looking l.keys l.key 0 l.lots (16 * l.b)
