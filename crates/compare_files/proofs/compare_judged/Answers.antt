use borrow.Author.Rules.{rules}
use Rattle.compare_files.specs.Pair.{kept_same}
use Rattle.compare_files.specs.Listing.{judged_good, judged_bad, judged_kept}
use Rattle.compare_files.proofs.compare_judged.Goals as goal

pub list_files-requires : goal.list_files-requires
list_files-requires c =
    judged_good _ _ _ c.judge.ensures _ _ _ c.requires c.in-Good.is

pub returns-in-Bad : goal.returns-in-Bad
returns-in-Bad c =
    let q = c.in-Bad.is in
    let j = c.judge.ensures in
    record {
      value = judged_bad _ _ _ j _ _ _ q c.args.list.now;
      list_after = judged_kept _ _ _ j _ _ _ q c.args.list.now;
      kept = kept_same _ c.requires;
    }
