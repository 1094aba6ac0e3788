use Rattle.std.proofs.Common.{rules}
use Rattle.text.specs.Find.{is_bad}
use Rattle.text.proofs.Passing.{passed_last}
use Rattle.text.proofs.near_end.Goals as goal

pub returns : goal.returns
returns c = passed_last is_bad _ _ (c.bad_in_block.ensures c.if-bad_in_block.false) (search rules) (search rules)
