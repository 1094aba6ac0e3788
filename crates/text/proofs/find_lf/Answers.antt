use Rattle.text.specs.Find.{is_lf}
use Rattle.text.proofs.Passing.{passed_start, lf_over}
use Rattle.text.proofs.find_lf.Goals as goal

pub returns-then-s-at : goal.returns-then-s-at
returns-then-s-at c = lf_over _ _ _ (passed_start is_lf _ _) c.if-s-at.true
