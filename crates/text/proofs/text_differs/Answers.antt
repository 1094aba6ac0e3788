use Rattle.std.proofs.Common.{rules}
use Rattle.std.proofs.lemmas.Bool.{MatchBool-at_false}
use Rattle.text.proofs.Texts.{text_all}
use Rattle.text.proofs.text_differs.Goals as goal

pub returns : goal.returns
returns c = λ e.
    let h = MatchBool-at_false _ _ e c.any_below.ensures in
    text_all _ _ _ (λ k g. let q = h k g in search rules)
