use native.Mathlib.Omega.{arith}
use Prim.Native.Nat.{◌≤◌}
use lib.ListN.{length}
use Rattle.tally_rules.specs.Tally.{longest}
use Rattle.tally_flat.specs.Flat.{memory}
use Rattle.tally_file.specs.Steps.{name_long, name_ready, name_small, name_now, name_full}
use borrow.Author.Rules.{rules}
use Rattle.tally_file.proofs.count_name.Goals as goal

pub returns-then-name-gt-SUPPLIER : goal.returns-then-name-gt-SUPPLIER
returns-then-name-gt-SUPPLIER c =
    let st = c in
    let m = memory st.args.names.now st.args.lengths.now st.args.counts.now in
    let p = name_long m st.args.totals st.args.name.now st.requires (search rules) in
    record { value = p.0; stepped = p.1 }

pub add_in-requires : goal.add_in-requires
add_in-requires c = let st = c in
    let m = memory st.args.names.now st.args.lengths.now st.args.counts.now in
    let h : length st.args.name.now ≤ longest = omega arith in
    name_ready m st.args.totals st.args.name.now st.requires h

pub overflow_cast-result : goal.overflow_cast-result
overflow_cast-result c = let st = c in
    let m = memory st.args.names.now st.args.lengths.now st.args.counts.now in
    let h : length st.args.name.now ≤ longest = omega arith in
    let k = name_small m st.args.totals st.args.name.now st.requires h _ c.add_in.ensures.value _ c.add_in.ensures.added_to _ c.in-Now.is in
    record { fits = omega (arith, k) }

pub returns-in-Now : goal.returns-in-Now
returns-in-Now c =
    let st = c in
    let m = memory st.args.names.now st.args.lengths.now st.args.counts.now in
    let h : length st.args.name.now ≤ longest = omega arith in
    let p = name_now m st.args.totals st.args.name.now st.requires h _ c.add_in.ensures.value _ c.add_in.ensures.added_to _ c.in-Now.is in
    record { value = p.0; stepped = p.1 }

pub returns-in-Full : goal.returns-in-Full
returns-in-Full c =
    let st = c in
    let m = memory st.args.names.now st.args.lengths.now st.args.counts.now in
    let h : length st.args.name.now ≤ longest = omega arith in
    let p = name_full m st.args.totals st.args.name.now st.requires h _ c.add_in.ensures.value _ c.add_in.ensures.added_to c.in-Full.is in
    record { value = p.0; stepped = p.1 }
