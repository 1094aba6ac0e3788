use native.Mathlib.Omega.{arith}
use Prim.Native.Nat.{◌≤◌}
use Rattle.tally_rules.specs.Tally.{most_records, most_suppliers}
use Rattle.tally_flat.specs.Flat.{memory}
use Rattle.tally_good.specs.Steps.{good_above, good_many, good_long, good_looked, good_rest}
use borrow.Author.Rules.{rules}
use Rattle.tally_good.proofs.good_list.Goals as goal

pub returns-then-totals-gt-RECORDS : goal.returns-then-totals-gt-RECORDS
returns-then-totals-gt-RECORDS c = search (rules, good_above, good_many, good_long, good_looked, good_rest)

pub returns-then-totals : goal.returns-then-totals
returns-then-totals c = search (rules, good_above, good_many, good_long, good_looked, good_rest)

pub good_names-requires : goal.good_names-requires
good_names-requires c = let st = c in
    let m = memory st.args.names.now st.args.lengths.now st.args.counts.now in
    let h : st.args.totals.total ≤ most_records = omega arith in
    let k : st.args.totals.entries ≤ most_suppliers = omega arith in
    (st.requires, good_looked m st.args.totals h k c.short_names.ensures st.requires c.if-short_names.true)

pub returns-then-short_names : goal.returns-then-short_names
returns-then-short_names c = search (rules, good_above, good_many, good_long, good_looked, good_rest)

pub returns : goal.returns
returns c = search (rules, good_above, good_many, good_long, good_looked, good_rest)
