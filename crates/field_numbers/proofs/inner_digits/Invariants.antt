use Rattle.field_numbers.proofs.Fields.{Counting}
use Rattle.field_numbers.proofs.inner_digits.Given as goal

abbrev pub invariant-loop-a : goal.invariant-loop-a
invariant-loop-a l = Counting l.line l.i l.e l.k l.a
