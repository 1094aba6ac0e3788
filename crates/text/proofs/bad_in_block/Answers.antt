use Rattle.std.proofs.Common.{rules}
use Rattle.std.proofs.lemmas.Bool.{MatchBool-at_false}
use Rattle.text.specs.Find.{is_bad}
use Rattle.text.proofs.Passing.{passed_block}
use Rattle.text.proofs.bad_in_block.Goals as goal

pub returns : goal.returns
returns c = λ e. passed_block is_bad _ _ 16 c.requires (λ k g. let q = MatchBool-at_false _ _ e c.any_below.ensures k g in search rules)
