use Prim.Native.Nat.{◌-◌}
use lib.ListN.{length}
use Rattle.mend_lines.specs.Deeds.{Scanning}
use Rattle.mend_lines.proofs.blank_from.Given as goal

abbrev pub invariant-loop-i : goal.invariant-loop-i
invariant-loop-i l = Scanning l.s l.at l.i

abbrev pub decreases-loop-i : goal.decreases-loop-i
decreases-loop-i l = length l.s - l.i
