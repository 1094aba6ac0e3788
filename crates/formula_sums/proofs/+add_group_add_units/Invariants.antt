-- The text left and the nesting left: every call within the cycle reads on or goes a level down.
use Prim.Native.Nat.{◌+◌, ◌-◌}
use lib.ListN.{length}
use Rattle.formula_sums.proofs.+add_group_add_units.Given as goal

abbrev pub decreases-add_group : goal.decreases-add_group
decreases-add_group l = length l.s.now - l.at + l.depth

abbrev pub decreases-add_units : goal.decreases-add_units
decreases-add_units l = length l.s.now - l.at + l.depth
