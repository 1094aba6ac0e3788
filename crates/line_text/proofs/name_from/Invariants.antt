use Rattle.line_text.proofs.Names.{Naming}
use Rattle.line_text.proofs.name_from.Given as goal

abbrev pub invariant-loop-i : goal.invariant-loop-i
invariant-loop-i l = Naming l.line l.from l.i
