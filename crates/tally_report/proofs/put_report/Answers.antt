use Rattle.tally_flat.specs.Flat.{memory, Sized}
use Rattle.tally_report.specs.Steps.{none_room, none_names, none_lengths, none_counts, none_good, ready_good}
use Rattle.tally_report.proofs.put_report.Goals as goal

pub returns-then-room-lt-REPORT : goal.returns-then-room-lt-REPORT
returns-then-room-lt-REPORT c = let st = c in
    let m = memory st.args.names.now st.args.lengths.now st.args.counts.now in
    none_room m st.args.totals st.args.room.now c.if-room-lt-REPORT.true

pub returns-then-names-ne-NAMES : goal.returns-then-names-ne-NAMES
returns-then-names-ne-NAMES c = let st = c in
    let m = memory st.args.names.now st.args.lengths.now st.args.counts.now in
    none_names m st.args.totals st.args.room.now c.if-names-ne-NAMES.true

pub returns-then-lengths-ne-SUPPLIERS : goal.returns-then-lengths-ne-SUPPLIERS
returns-then-lengths-ne-SUPPLIERS c = let st = c in
    let m = memory st.args.names.now st.args.lengths.now st.args.counts.now in
    none_lengths m st.args.totals st.args.room.now c.if-lengths-ne-SUPPLIERS.true

pub returns-then-counts-ne-SUPPLIERS : goal.returns-then-counts-ne-SUPPLIERS
returns-then-counts-ne-SUPPLIERS c = let st = c in
    let m = memory st.args.names.now st.args.lengths.now st.args.counts.now in
    none_counts m st.args.totals st.args.room.now c.if-counts-ne-SUPPLIERS.true

pub put_good-requires : goal.put_good-requires
put_good-requires c = let st = c in
    let m = memory st.args.names.now st.args.lengths.now st.args.counts.now in
    let z : Sized m = record { names = c.if-names-ne-NAMES.false; lengths = c.if-lengths-ne-SUPPLIERS.false; counts = c.if-counts-ne-SUPPLIERS.false } in
    ready_good m st.args.totals c.good_list.ensures st.args.room.now z c.if-room-lt-REPORT.false c.if-good_list.true

pub returns : goal.returns
returns c = let st = c in
    let m = memory st.args.names.now st.args.lengths.now st.args.counts.now in
    none_good m st.args.totals c.good_list.ensures st.args.room.now c.if-good_list.false
