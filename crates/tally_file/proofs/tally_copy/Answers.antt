use Rattle.tally_flat.specs.Flat.{memory}
use native.Mathlib.Omega.{arith}
use mathlib.Core.Path.{sym, ◌∙◌}
use Rattle.tally_file.specs.Once.{copied_front, copy_done, copy_not}
use Rattle.tally_file.proofs.tally_copy.Goals as goal

pub copy_first-requires-then-is_done-3 : goal.copy_first-requires-then-is_done-3
copy_first-requires-then-is_done-3 c = let st = c in
    (st.requires.counts, omega (arith, c.tally_arrays-r.ensures.left_list.sized.counts))

pub returns-then-is_done : goal.returns-then-is_done
returns-then-is_done c = let st = c in
    let m = memory st.args.names.now st.args.lengths.now st.args.counts.now in
    let e = copied_front m _ _ _ c.copy_first.ensures c.copy_first-2.ensures c.copy_first-3.ensures in
    let h = sym c.is_done.ensures ∙ c.if-is_done.true in
    copy_done st.args.s.now m st.args.totals st.requires _ e _ c.tally_arrays-r.ensures.value _ c.tally_arrays-r.ensures.left_list h _ _ _
    c.copy_first-then-is_done.ensures c.copy_first-then-is_done-2.ensures c.copy_first-then-is_done-3.ensures

pub returns : goal.returns
returns c = let st = c in
    let m = memory st.args.names.now st.args.lengths.now st.args.counts.now in
    let e = copied_front m _ _ _ c.copy_first.ensures c.copy_first-2.ensures c.copy_first-3.ensures in
    copy_not st.args.s.now m st.args.totals st.requires _ e _ c.tally_arrays-r.ensures.value (sym c.is_done.ensures ∙ c.if-is_done.false)
