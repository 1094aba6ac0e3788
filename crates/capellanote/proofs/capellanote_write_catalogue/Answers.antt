-- `capellanote::capellanote_write_catalogue` meets its contract.
use Rattle.capellanote.specs.Catalogue.{catalogue_held, catalogue_told_lem}
use borrow.Author.Rules.{rules}
use Rattle.capellanote.proofs.capellanote_write_catalogue.Goals as goal

pub returns : goal.returns
returns c =
    let p = c.write_catalogue.ensures in
    record {
      answer_after = catalogue_held _ _ _ _ _ _ _ _ _ c.of_catalogue.ensures p;
      catalogue_promise = catalogue_told_lem _ _ _ _ _ _ _ _ _ c.of_catalogue.ensures p;
    }
