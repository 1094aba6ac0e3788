use native.Mathlib.Omega.{arith}
use borrow.Author.Rules.{rules}
use Rattle.compare_files.specs.Pair.{kept_join}
use Rattle.compare_files.specs.Listing.{good_again, list_short, list_kept, list_done, list_written}
use Rattle.compare_files.proofs.list_files.Goals as goal

pub returns-then-list-counted : goal.returns-then-list-counted
returns-then-list-counted c =
    let e = c.files_apart-counted.ensures in
    record {
      value = list_short _ _ _ _ _ c.requires c.args.list.now _ _ _ (omega (arith, c.well_formed)) e.apart c.if-list-counted.true;
      list_after = list_kept _ _ _ _ _ c.requires c.args.list.now _ _ _ (omega (arith, c.well_formed)) e.apart c.if-list-counted.true;
      kept = e.kept;
    }

pub files_apart-listed-requires : goal.files_apart-listed-requires
files_apart-listed-requires c =
    let e = c.files_apart-counted.ensures in
    good_again c.requires e.kept

pub returns : goal.returns
returns c =
    let e = c.files_apart-counted.ensures in
    let f = c.files_apart-listed.ensures in
    record {
      value = list_done _ _ _ _ _ c.requires c.args.list.now _ _ _ (omega (arith, c.well_formed)) e.apart (search rules) _ _ f.apart;
      list_after = list_written _ _ _ _ _ c.requires c.args.list.now _ _ _ (omega (arith, c.well_formed)) e.apart (search rules) _ _ f.apart;
      kept = kept_join e.kept f.kept;
    }
