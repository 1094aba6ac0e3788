use Prim.Native.Nat.{◌-◌}
use lib.ListN.{length}
use Rattle.compare_rules.specs.Log.{log}
use Rattle.compare_items.specs.Resting.{Resting}
use Rattle.compare_items.proofs.rest_values.Given as goal

abbrev pub invariant-loop-next : goal.invariant-loop-next
invariant-loop-next l = Resting l.p l.side l.s l.at (log l.initial.list l.initial.c) (log l.list l.c) l.x l.k

abbrev pub decreases-loop-next : goal.decreases-loop-next
decreases-loop-next l = length l.s - l.x
