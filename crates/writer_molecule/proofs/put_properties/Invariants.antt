use borrow.Author.Rules.{rules}
use Rattle.writer_molecule.specs.Listing.{Listing, listing_laws}
use Rattle.writer_molecule.proofs.put_properties.Given as goal

abbrev pub invariant-loop-left : goal.invariant-loop-left
invariant-loop-left l = Listing l.kind l.n l.atoms l.initial.room l.room l.at l.i l.e l.left

abbrev pub decreases-loop-left : goal.decreases-loop-left
decreases-loop-left l = l.left
