use borrow.Author.Rules.{rules}
use Prim.Native.Nat.{◌-◌}
use lib.ListN.{length}
use Rattle.writer_parts_put.proofs.Putting.{Putting, items_laws}
use Rattle.writer_parts.specs.Step.{place_of}
use Rattle.writer_parts.specs.declared.Place.{Place}
use Rattle.writer_parts_put.proofs.put_items.Given as goal

abbrev pub invariant-loop-i : goal.invariant-loop-i
invariant-loop-i l = Putting Place.Items l.s l.initial.room l.room l.at (place_of l.inside) l.i l.e

abbrev pub decreases-loop-i : goal.decreases-loop-i
decreases-loop-i l = length l.s - l.i
