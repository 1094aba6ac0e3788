use Rattle.writer_molecule.specs.Listing.{Counting}
use Rattle.writer_molecule.proofs.entry_count.Given as goal

abbrev pub invariant-loop-i : goal.invariant-loop-i
invariant-loop-i l = Counting l.kind l.n l.atoms l.k l.i
