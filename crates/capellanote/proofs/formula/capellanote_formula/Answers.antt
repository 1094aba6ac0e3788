use Rattle.capellanote.specs.Formula.{compared_held, compared_told_lem}
use borrow.Author.Rules.{rules}
use Rattle.capellanote.proofs.formula.capellanote_formula.Goals as goal

pub returns : goal.returns
returns c =
    let o = c.of_compared.ensures in
    let q = c.compare_formula.ensures in
    record {
      answer_after = compared_held _ _ _ o q.value;
      found_after = q.found_after;
      atoms_after = q.atoms_after;
      bonds_after = q.bonds_after;
      compare_promise = compared_told_lem _ _ _ _ _ _ _ _ _ o q.compare_promise;
    }
