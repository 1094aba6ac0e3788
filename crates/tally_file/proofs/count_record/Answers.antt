use native.Mathlib.Omega.{arith}
use Prim.Native.Nat.{◌<◌}
use Rattle.tally_rules.specs.Tally.{most_records}
use Rattle.tally_flat.specs.Flat.{memory}
use Rattle.tally_file.specs.Naming.{line_here, line_empty, line_none}
use Rattle.tally_file.specs.Steps.{record_top, record_named, record_missing}
use borrow.Author.Rules.{rules}
use Rattle.tally_file.proofs.count_record.Goals as goal

pub returns-then-totals-ge-RECORDS : goal.returns-then-totals-ge-RECORDS
returns-then-totals-ge-RECORDS c =
    let st = c in
    let m = memory st.args.names.now st.args.lengths.now st.args.counts.now in
    let p = record_top st.args.s.now m st.args.totals st.requires (search rules) in
    record { value = p.0; stepped = p.1 }

pub slice_bounds-count_name-count : goal.slice_bounds-count_name-count
slice_bounds-count_name-count c = let st = c in (line_here st.args.s.now _ c.first_line.ensures _ _ c.in-Line.is).order

pub slice_bounds-count_name-start : goal.slice_bounds-count_name-start
slice_bounds-count_name-start c = let st = c in
    let h = (line_here st.args.s.now _ c.first_line.ensures _ _ c.in-Line.is).order in
    search (rules, h)

pub slice_bounds-count_name-end : goal.slice_bounds-count_name-end
slice_bounds-count_name-end c = let st = c in
    let h = (line_here st.args.s.now _ c.first_line.ensures _ _ c.in-Line.is).order in
    let i = (line_here st.args.s.now _ c.first_line.ensures _ _ c.in-Line.is).inside in
    search (rules, h, i)

pub returns-in-Line : goal.returns-in-Line
returns-in-Line c =
    let st = c in
    let m = memory st.args.names.now st.args.lengths.now st.args.counts.now in
    let h : st.args.totals.total < most_records = omega arith in
    let p = record_named st.args.s.now m st.args.totals st.requires h _ (line_here st.args.s.now _ c.first_line.ensures _ _ c.in-Line.is).is _ _ c.count_name.ensures.value c.count_name.ensures.stepped in
    record { value = p.0; stepped = p.1 }

pub returns-in-Empty : goal.returns-in-Empty
returns-in-Empty c =
    let st = c in
    let m = memory st.args.names.now st.args.lengths.now st.args.counts.now in
    let h : st.args.totals.total < most_records = omega arith in
    let p = record_missing st.args.s.now m st.args.totals st.requires h (line_empty st.args.s.now _ c.first_line.ensures c.in-Empty.is) _ c.missed.ensures in
    record { value = p.0; stepped = p.1 }

pub returns-in-Refused : goal.returns-in-Refused
returns-in-Refused c =
    let st = c in
    let m = memory st.args.names.now st.args.lengths.now st.args.counts.now in
    let h : st.args.totals.total < most_records = omega arith in
    let p = record_missing st.args.s.now m st.args.totals st.requires h (line_none st.args.s.now _ c.first_line.ensures _ _ _ c.in-Refused.is) _ c.missed-in-Refused.ensures in
    record { value = p.0; stepped = p.1 }
