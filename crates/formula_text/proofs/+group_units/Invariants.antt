-- The text left and the nesting left: every call within the cycle reads on or goes a level down.
use Prim.Native.Nat.{◌+◌, ◌-◌}
use lib.ListN.{length}
use Rattle.formula_text.proofs.+group_units.Given as goal

abbrev pub decreases-group : goal.decreases-group
decreases-group l = length l.s.now - l.at + l.depth

abbrev pub decreases-units : goal.decreases-units
decreases-units l = length l.s.now - l.at + l.depth
