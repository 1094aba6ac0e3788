use borrow.Author.Rules.{rules}
use Prim.Native.Nat.{◌-◌}
use lib.ListN.{length}
use Rattle.writer_catalogue.specs.Measuring.{Measuring, measuring_laws}
use Rattle.writer_catalogue.proofs.measure_file.Given as goal

abbrev pub invariant-loop-cursor : goal.invariant-loop-cursor
invariant-loop-cursor l = Measuring l.s l.initial.atoms l.initial.bonds l.atoms l.bonds l.room l.cursor l.needed

abbrev pub decreases-loop-cursor : goal.decreases-loop-cursor
decreases-loop-cursor l = length l.s - l.cursor.at
