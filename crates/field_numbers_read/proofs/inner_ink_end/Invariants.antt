use Rattle.field_numbers.proofs.Fields.{Shedding}
use Rattle.field_numbers_read.proofs.inner_ink_end.Given as goal

abbrev pub invariant-loop-z : goal.invariant-loop-z
invariant-loop-z l = Shedding l.line l.i l.e l.z
