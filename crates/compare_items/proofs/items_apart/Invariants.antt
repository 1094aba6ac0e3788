use Prim.Native.Nat.{◌-◌}
use lib.ListN.{length}
use Rattle.compare_rules.specs.Log.{log}
use Rattle.compare_items.specs.Items.{Side}
use Rattle.compare_items.proofs.items_apart.Given as goal

abbrev pub invariant-loop-e : goal.invariant-loop-e
invariant-loop-e l = Side l.position l.a l.b (log l.initial.list l.initial.c) (log l.list l.c) l.x l.y l.k

abbrev pub decreases-loop-e : goal.decreases-loop-e
decreases-loop-e l = length l.a - l.x
