use Rattle.tally_flat.specs.Flat.{memory}
use Rattle.tally_file.specs.Counting.{list_ready, list_told, list_left, list_bad, list_same}
use borrow.Author.Rules.{rules}
use Rattle.tally_file.proofs.tally_arrays.Goals as goal

pub tally_listed-requires : goal.tally_listed-requires
tally_listed-requires c = let st = c in
    let m = memory st.args.names.now st.args.lengths.now st.args.counts.now in
    list_ready st.args.s.now m st.args.totals c.good_list.ensures st.requires c.if-good_list.true

pub returns-then-good_list : goal.returns-then-good_list
returns-then-good_list c =
    let st = c in
    let m = memory st.args.names.now st.args.lengths.now st.args.counts.now in
    record {
      value = list_told st.args.s.now m st.args.totals c.good_list.ensures c.if-good_list.true _ c.tally_listed.ensures.value;
      left_list = list_left st.args.s.now m st.args.totals c.good_list.ensures c.if-good_list.true _ c.tally_listed.ensures.left;
    }

pub returns : goal.returns
returns c =
    let st = c in
    let m = memory st.args.names.now st.args.lengths.now st.args.counts.now in
    record {
      value = list_bad st.args.s.now m st.args.totals c.good_list.ensures c.if-good_list.false _ c.no_list.ensures;
      left_list = list_same st.args.s.now m st.args.totals c.good_list.ensures st.requires c.if-good_list.false;
    }
