use Prim.Native.Nat.{◌-◌}
use lib.ListN.{length}
use Rattle.compare_items.specs.Resting.{Passing}
use Rattle.compare_items.proofs.past_item.Given as goal

abbrev pub invariant-loop-next : goal.invariant-loop-next
invariant-loop-next l = Passing l.s l.at l.x

abbrev pub decreases-loop-next : goal.decreases-loop-next
decreases-loop-next l = length l.s - l.x
