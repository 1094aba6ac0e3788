use borrow.Author.Rules.{rules}
use Prim.Native.Nat.{◌-◌}
use lib.ListN.{length}
use Rattle.writer_catalogue.specs.TwoPasses.{Filling, filling_laws}
use Rattle.writer_catalogue.proofs.write_file.Given as goal

abbrev pub invariant-loop-cursor : goal.invariant-loop-cursor
invariant-loop-cursor l = Filling l.s l.initial.atoms l.initial.bonds l.initial.room l.atoms l.bonds l.room l.cursor l.to

abbrev pub decreases-loop-cursor : goal.decreases-loop-cursor
decreases-loop-cursor l = length l.s - l.cursor.at
