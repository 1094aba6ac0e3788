use Rattle.tally_flat.specs.Flat.{memory}
use Rattle.capellanote.specs.Tally.{held_done, held_not}
use borrow.Author.Rules.{rules}
use Rattle.capellanote.proofs.tally.capellanote_tally.Goals as goal

pub returns-then-is_done : goal.returns-then-is_done
returns-then-is_done c = let st = c in
    let m = memory st.args.names.now st.args.lengths.now st.args.counts.now in
    held_done st.args.s.now m st.args.totals.now _ _ c.tally_flat-r.ensures c.is_done.ensures c.if-is_done.true _ _ c.of_tallied.ensures c.of_totals.ensures

pub returns : goal.returns
returns c = let st = c in
    let m = memory st.args.names.now st.args.lengths.now st.args.counts.now in
    held_not st.args.s.now m st.args.totals.now _ _ c.tally_flat-r.ensures c.is_done.ensures c.if-is_done.false _ c.of_tallied-2.ensures
