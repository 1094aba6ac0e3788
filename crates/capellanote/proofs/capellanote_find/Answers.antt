-- `capellanote::capellanote_find` meets its contract.
use Rattle.capellanote.specs.Find.{found_laws}
use borrow.Author.Rules.{rules}
use Rattle.capellanote.proofs.capellanote_find.Goals as goal

pub returns : goal.returns
returns c = search (rules, found_laws)
