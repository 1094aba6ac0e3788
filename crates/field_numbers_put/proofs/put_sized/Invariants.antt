use Rattle.field_numbers_put.proofs.Texts.{Writing}
use Rattle.field_numbers_put.proofs.put_sized.Given as goal

abbrev pub invariant-loop-i : goal.invariant-loop-i
invariant-loop-i l = Writing l.initial.out l.at l.width l.minus l.k l.out l.i l.q l.more l.sign
