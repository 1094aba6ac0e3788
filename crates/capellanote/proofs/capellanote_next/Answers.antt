-- `capellanote::capellanote_next` meets its contract.
use Rattle.capellanote.specs.Next.{next_held, next_told_lem}
use borrow.Author.Rules.{rules}
use Rattle.capellanote.proofs.capellanote_next.Goals as goal

pub returns : goal.returns
returns c =
    let o = c.of_next.ensures in
    let q = c.next_record.ensures in
    record {
      answer_after = next_held _ _ _ _ o q.value;
      atoms_after = q.atoms_after;
      bonds_after = q.bonds_after;
      next_promise = next_told_lem _ _ _ _ _ _ _ _ o q.next_promise;
    }
