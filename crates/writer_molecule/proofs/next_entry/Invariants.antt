use Rattle.writer_molecule.specs.Listing.{Seeking}
use Rattle.writer_molecule.proofs.next_entry.Given as goal

abbrev pub invariant-loop-j : goal.invariant-loop-j
invariant-loop-j l = Seeking l.kind l.n l.atoms l.i l.j
