use mathlib.Core.Path.{refl}
use Rattle.formula_drawn.specs.Listing.{one_same, one_differs}
use Rattle.formula_drawn.proofs.list_one.Goals as goal

pub returns-then-written-drawn : goal.returns-then-written-drawn
returns-then-written-drawn c =
    let k = one_same c.args.found.now c.args.count c.args.k c.args.written c.args.drawn c.if-written-drawn.true in
    record { value = k.0; found_after = k.1 }

pub returns : goal.returns
returns c =
    let k = one_differs c.args.found.now c.args.count c.args.k c.args.written c.args.drawn c.if-written-drawn.false _ refl _ c.put_difference.ensures in
    record { value = k.0; found_after = k.1 }
