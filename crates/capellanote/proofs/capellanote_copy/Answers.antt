-- `capellanote::capellanote_copy` meets its contract.
use Rattle.capellanote.specs.Copy.{copied_held, copied_told_lem}
use borrow.Author.Rules.{rules}
use Rattle.capellanote.proofs.capellanote_copy.Goals as goal

pub returns : goal.returns
returns c =
    let p = c.copy_record.ensures in
    record {
      answer_after = copied_held _ _ _ _ _ _ _ _ _ _ c.of_copied.ensures p;
      copy_promise = copied_told_lem _ _ _ _ _ _ _ _ _ _ c.of_copied.ensures p;
    }
