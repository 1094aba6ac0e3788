use borrow.Author.Rules.{rules}
use Prim.Native.Nat.{◌-◌}
use lib.ListN.{length}
use Rattle.reader_items.specs.Running.{Running}
use Rattle.reader_items.proofs.Running.{running_laws}
use Rattle.reader_items.proofs.values_at.Given as goal

abbrev pub invariant-loop-end : goal.invariant-loop-end
invariant-loop-end l = Running l.s l.at l.from l.to l.i l.line

abbrev pub decreases-loop-end : goal.decreases-loop-end
decreases-loop-end l = length l.s - l.i
