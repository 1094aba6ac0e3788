use Rattle.reader_resume.specs.Laws.{Reaches}
use Rattle.reader_resume.proofs.Passing.pass.Given as goal

abbrev pub invariant-loop-i : goal.invariant-loop-i
invariant-loop-i l = Reaches l.initial.passing l.passing l.part l.i
