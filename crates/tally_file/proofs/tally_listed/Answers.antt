use Rattle.tally_flat.specs.Flat.{memory}
use Rattle.tally_file.specs.Counting.{file_good, file_bad}
use borrow.Author.Rules.{rules}
use Rattle.tally_file.proofs.tally_listed.Goals as goal

pub count_records-requires : goal.count_records-requires
count_records-requires c = let st = c in
    let m = memory st.args.names.now st.args.lengths.now st.args.counts.now in
    file_good st.args.s.now m st.args.totals _ c.check.ensures st.requires _ c.in-Ok.is

pub returns-in-Err : goal.returns-in-Err
returns-in-Err c =
    let st = c in
    let m = memory st.args.names.now st.args.lengths.now st.args.counts.now in
    let p = file_bad st.args.s.now m st.args.totals _ c.check.ensures st.requires.sized _ c.in-Err.is in
    record { value = p.0; left = p.1 }
