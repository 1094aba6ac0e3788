use Rattle.field_numbers.proofs.Fields.{Passing}
use Rattle.field_numbers.proofs.spaces_end.Given as goal

abbrev pub invariant-loop-a : goal.invariant-loop-a
invariant-loop-a l = Passing l.line l.i l.e l.a
