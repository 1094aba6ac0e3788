use borrow.Author.Rules.{rules}
use Prim.Native.Nat.{◌-◌}
use lib.ListN.{length}
use Rattle.writer_parts.proofs.Sizing.{Sizing, items_laws}
use Rattle.writer_parts.specs.Step.{place_of}
use Rattle.writer_parts.specs.declared.Place.{Place}
use Rattle.writer_parts.proofs.size_items.Given as goal

abbrev pub invariant-loop-at : goal.invariant-loop-at
invariant-loop-at l = Sizing Place.Items l.s (place_of l.inside) l.at l.size

abbrev pub decreases-loop-at : goal.decreases-loop-at
decreases-loop-at l = length l.s - l.at
