use Rattle.std.proofs.Common.{rules, arith}
use Rattle.formula_drawn.specs.Listing.{entry, listing_laws, listing_end}
use Rattle.formula_drawn.proofs.list_differences.Goals as goal

pub loop-k-preserved : goal.loop-k-preserved
loop-k-preserved c = search (rules, listing_laws)

pub returns : goal.returns
returns c =
    let k = listing_end (entry c.args.written.now) (entry c.args.drawn.now) c.args.found.now c.loop-k.found c.loop-k.count c.loop-k.k c.loop-k.invariant (omega arith) in
    record { value = k.0; found_after = k.1 }
