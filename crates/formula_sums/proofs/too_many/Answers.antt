use Rattle.std.proofs.Common.{rules, arith, ltb, sym, ◌∙◌}
use Rattle.std.proofs.lemmas.Iterator.{YieldsList-from_slice}
use Rattle.std.proofs.lemmas.Iterator.Search.{any_from_yields_List}
use borrow.Author.Tests.{tests}
use Rattle.formula_sums.specs.Adds.{crowded_any}
use Rattle.formula_sums.proofs.too_many.Goals as goal

pub returns : goal.returns
returns c =
    any_from_yields_List (λ x. ltb 9999 x) _ _ c.any.result c.any.ensures.ran (YieldsList-from_slice _ c.iter.ensures.rest) (λ x b q k. search (rules, tests))
    ∙ sym (crowded_any c.args.counts.now 1 118 (omega arith))
