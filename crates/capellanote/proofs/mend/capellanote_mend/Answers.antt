use Rattle.capellanote.specs.Mend.{mend_laws}
use borrow.Author.Rules.{rules}
use Rattle.capellanote.proofs.mend.capellanote_mend.Goals as goal

pub returns : goal.returns
returns c = record {
  answer_after = search (rules, mend_laws);
  promise = search (rules, mend_laws);
}
