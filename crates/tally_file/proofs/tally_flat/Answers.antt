use Rattle.tally_flat.specs.Flat.{memory}
use Rattle.tally_file.specs.Once.{few_names, few_lengths, few_counts}
use borrow.Author.Rules.{rules}
use Rattle.tally_file.proofs.tally_flat.Goals as goal

pub returns-then-names-lt-NAMES : goal.returns-then-names-lt-NAMES
returns-then-names-lt-NAMES c = let st = c in
    let m = memory st.args.names.now st.args.lengths.now st.args.counts.now in
    few_names st.args.s.now m st.args.totals c.if-names-lt-NAMES.true _ c.no_list.ensures

pub returns-then-lengths-lt-SUPPLIERS : goal.returns-then-lengths-lt-SUPPLIERS
returns-then-lengths-lt-SUPPLIERS c = let st = c in
    let m = memory st.args.names.now st.args.lengths.now st.args.counts.now in
    few_lengths st.args.s.now m st.args.totals c.if-lengths-lt-SUPPLIERS.true _ c.no_list-then-lengths-lt-SUPPLIERS.ensures

pub returns-then-counts-lt-SUPPLIERS : goal.returns-then-counts-lt-SUPPLIERS
returns-then-counts-lt-SUPPLIERS c = let st = c in
    let m = memory st.args.names.now st.args.lengths.now st.args.counts.now in
    few_counts st.args.s.now m st.args.totals c.if-counts-lt-SUPPLIERS.true _ c.no_list-then-counts-lt-SUPPLIERS.ensures
