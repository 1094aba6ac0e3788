-- `capellanote::capellanote_feed` meets its contract.
use Rattle.capellanote.specs.Feed.{fed_laws}
use borrow.Author.Rules.{rules}
use Rattle.capellanote.proofs.capellanote_feed.Goals as goal

pub returns : goal.returns
returns c = search (rules, fed_laws)
