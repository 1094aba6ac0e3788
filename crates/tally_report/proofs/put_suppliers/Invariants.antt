use Rattle.tally_flat.specs.Flat.{memory}
use Rattle.tally_report.specs.Steps.{Putting}
use Rattle.tally_report.proofs.put_suppliers.Given as goal

abbrev pub invariant-loop-i : goal.invariant-loop-i
invariant-loop-i l = Putting (memory l.names l.lengths l.counts) l.used l.initial.room l.room l.e l.i
