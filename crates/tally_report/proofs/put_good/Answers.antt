use Rattle.tally_flat.specs.Flat.{memory}
use Rattle.tally_report.specs.Steps.{good_lines, good_room, good_report}
use Rattle.tally_report.proofs.put_good.Goals as goal

pub put_suppliers-e-requires : goal.put_suppliers-e-requires
put_suppliers-e-requires c = let st = c in
    let m = memory st.args.names.now st.args.lengths.now st.args.counts.now in
    good_lines m st.args.totals _ st.requires

pub put_totals-requires : goal.put_totals-requires
put_totals-requires c = let st = c in
    let m = memory st.args.names.now st.args.lengths.now st.args.counts.now in
    good_room m st.args.totals st.args.room.now _ _ st.requires c.put_suppliers-e.ensures

pub returns : goal.returns
returns c = let st = c in
    let m = memory st.args.names.now st.args.lengths.now st.args.counts.now in
    good_report m st.args.totals st.args.room.now _ _ _ _ st.requires c.put_suppliers-e.ensures c.put_totals.ensures
