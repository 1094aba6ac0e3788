use Rattle.capellanote.specs.Compare.{files_held, files_told_lem}
use borrow.Author.Rules.{rules}
use Rattle.capellanote.proofs.compare.capellanote_compare.Goals as goal

pub returns : goal.returns
returns c =
    let o = c.of_files.ensures in
    let q = c.compare_files.ensures in
    record {
      answer_after = files_held _ _ _ o q.answer;
      promise = files_told_lem _ _ _ _ _ _ _ _ o q;
    }
