-- `capellanote::capellanote_read` meets its contract.
use Rattle.capellanote.specs.Read.{rowed_held, rowed_told_lem, promise_told}
use borrow.Author.Rules.{rules}
use Rattle.capellanote.proofs.capellanote_read.Goals as goal

pub returns : goal.returns
returns c =
    let o = c.of_reading.ensures in
    let q = c.read_record.ensures in
    record {
      answer_after = rowed_held _ _ _ _ _ _ _ _ _ _ o q.rows_after;
      rows_after = rowed_told_lem _ _ _ _ _ _ _ _ _ _ o q.rows_after q.rowed_promise;
      rowed_promise = promise_told _ _ _ _ _ _ _ _ _ _ o q.rowed_promise;
    }
