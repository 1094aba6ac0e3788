use Rattle.formula_drawn.specs.Tallying.{Tallying}
use Rattle.formula_drawn.proofs.count_drawn.Given as goal

abbrev pub invariant-loop-i : goal.invariant-loop-i
invariant-loop-i l = Tallying l.atoms l.n l.initial.drawn l.drawn l.i
