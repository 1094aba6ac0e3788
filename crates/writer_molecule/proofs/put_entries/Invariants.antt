use Rattle.std.proofs.Common.{◌-◌}
use Rattle.writer_molecule.specs.Listing.{Entering}
use Rattle.writer_molecule.proofs.put_entries.Given as goal

abbrev pub invariant-loop : goal.invariant-loop
invariant-loop l = Entering l.kind l.n l.atoms l.i l.count l.initial.room l.room l.at l.j l.e (l.count - l.counter)
