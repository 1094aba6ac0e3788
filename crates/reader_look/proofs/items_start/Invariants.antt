use borrow.Author.Rules.{rules}
use Prim.Native.Nat.{◌-◌}
use lib.ListN.{length}
use Rattle.reader_look.specs.Looking.{Reaching, reaching_laws}
use Rattle.reader_look.proofs.items_start.Given as goal

abbrev pub invariant-loop-end : goal.invariant-loop-end
invariant-loop-end l = Reaching l.s l.at l.lines

abbrev pub decreases-loop-end : goal.decreases-loop-end
decreases-loop-end l = length l.s - l.at
