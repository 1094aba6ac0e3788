use Rattle.std.proofs.Common.{◌≡◌}
use Rattle.text.specs.Find.{has_text}
use Rattle.text.proofs.Texts.{text_from}
use Rattle.text.proofs.has_text.Given as goal

abbrev pub invariant-loop-k : goal.invariant-loop-k
invariant-loop-k l = has_text l.line l.i l.text ≡ text_from l.line l.i l.text l.k
