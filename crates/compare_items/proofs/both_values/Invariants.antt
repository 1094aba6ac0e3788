use Prim.Native.Nat.{◌-◌}
use lib.ListN.{length}
use Rattle.compare_rules.specs.Log.{log}
use Rattle.compare_items.specs.Pairing.{Pairing}
use Rattle.compare_items.proofs.both_values.Given as goal

abbrev pub invariant-loop-e : goal.invariant-loop-e
invariant-loop-e l = Pairing l.p l.a l.i l.b l.j (log l.initial.list l.initial.c) (log l.list l.c) l.x l.y l.k

abbrev pub decreases-loop-e : goal.decreases-loop-e
decreases-loop-e l = length l.a - l.x
