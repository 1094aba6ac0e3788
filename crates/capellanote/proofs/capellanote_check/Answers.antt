-- `capellanote::capellanote_check` meets its contract.
use Rattle.capellanote.specs.Check.{check_laws}
use borrow.Author.Rules.{rules}
use Rattle.capellanote.proofs.capellanote_check.Goals as goal

pub returns : goal.returns
returns c = search (rules, check_laws)
