use Rattle.std.proofs.Common.{rules, arith}
use Rattle.formula_rules.specs.Capped.{below_here}
use Rattle.formula_drawn.specs.Tallying.{tally_laws, tally_stop, tally_end}
use Rattle.formula_drawn.proofs.count_drawn.Goals as goal

pub returns-then-k-gt-ELEMENTS : goal.returns-then-k-gt-ELEMENTS
returns-then-k-gt-ELEMENTS c =
    let k = tally_stop c.args.atoms.now c.args.n c.args.drawn.now c.loop-i.drawn c.loop-i.i c.loop-i.invariant (omega arith) c.symbol_of-k.ensures (omega arith) in
    record { value = k.0; drawn_after = k.1 }

pub add_at-requires : goal.add_at-requires
add_at-requires c = search (rules, tally_laws, below_here)

pub loop-i-preserved : goal.loop-i-preserved
loop-i-preserved c = search (rules, tally_laws)

pub returns : goal.returns
returns c =
    let k = tally_end c.args.atoms.now c.args.n c.args.drawn.now c.loop-i.drawn c.loop-i.i c.loop-i.invariant (omega arith) in
    record { value = k.0; drawn_after = k.1 }
