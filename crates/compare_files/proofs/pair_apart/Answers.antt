use borrow.Author.Rules.{rules}
use Rattle.compare_files.specs.Pair.{both_read, both_kept}
use Rattle.compare_files.proofs.pair_apart.Goals as goal

pub pair_read-requires : goal.pair_read-requires
pair_read-requires c =
    let x = c.read_rows-x.ensures in
    let y = c.read_rows-y.ensures in
    both_read _ _ _ _ _ _ _ c.requires _ _ _ _ x.rows_promise y.rows_promise _ _ x.value y.value

pub returns : goal.returns
returns c =
    let x = c.read_rows-x.ensures in
    let y = c.read_rows-y.ensures in
    record { paired = search rules; kept = both_kept _ _ _ _ _ _ _ c.requires _ _ _ _ x.rows_promise y.rows_promise }
