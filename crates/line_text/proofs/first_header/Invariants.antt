use Rattle.line_text.proofs.Tags.{Untagged}
use Rattle.line_text.proofs.first_header.Given as goal

abbrev pub invariant-loop-i : goal.invariant-loop-i
invariant-loop-i l = Untagged l.line l.i
