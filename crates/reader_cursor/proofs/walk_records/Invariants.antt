use borrow.Author.Rules.{rules}
use Prim.Native.Nat.{◌-◌}
use lib.ListN.{length}
use Rattle.reader_cursor.specs.FileWalk.{Going, going_laws}
use Rattle.reader_cursor.proofs.walk_records.Given as goal

abbrev pub invariant-loop-cursor : goal.invariant-loop-cursor
invariant-loop-cursor l = Going l.s l.initial.atoms l.initial.bonds l.atoms l.bonds l.listed l.keys l.cursor

abbrev pub decreases-loop-cursor : goal.decreases-loop-cursor
decreases-loop-cursor l = length l.s - l.cursor.at
