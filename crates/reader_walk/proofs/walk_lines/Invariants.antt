use Prim.Native.Nat.{◌-◌}
use lib.ListN.{length}
use Rattle.reader_walk.specs.Walking.{Walking}
use Rattle.reader_walk.specs.Pairing.{Pairing}
use Rattle.reader_walk.proofs.walk_lines.Given as goal

abbrev pub invariant-loop-j : goal.invariant-loop-j
invariant-loop-j l = Pairing l.sd l.s l.r l.notes l.next l.line l.listed l.keys l.rows l.atoms l.bonds l.b l.key l.count l.j

abbrev pub invariant-walk : goal.invariant-walk
invariant-walk l = Walking l.sd l.s l.initial.atoms l.initial.bonds l.initial.rows l.reader l.notes l.at l.line l.listed l.keys l.rows l.atoms l.bonds

abbrev pub decreases-walk : goal.decreases-walk
decreases-walk l = length l.s - l.at
