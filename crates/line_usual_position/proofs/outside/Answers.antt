use Rattle.std.proofs.Common.{◌≡◌, ◌+◌, false, ◌||◌, ltb, get_or, rules}
use Rattle.std.proofs.lemmas.Bool.{MatchBool-at_false, ltb-false, or_parts}
use Rattle.text.specs.Columns.{column}
use Rattle.line_usual_position.proofs.outside.Goals as goal

pub returns : goal.returns
returns c = λ e k g.
    let b = column c.args.line.now (k + 1) in
    let low = get_or c.args.low.now k 0 in
    let high = get_or c.args.high.now k 0 in
    let q = MatchBool-at_false _ _ e c.any_below.ensures k g in
    let n : (ltb b low || ltb high b) ≡ false = search rules in
    let p = or_parts _ _ n in
    (ltb-false b low p.0, ltb-false high b p.1)
