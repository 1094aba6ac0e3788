-- `capellanote::replay::as_numbers` meets its contract.
use Rattle.capellanote.specs.Replay.{state_put}
use borrow.Author.Rules.{rules}
use Rattle.capellanote.proofs.replay.as_numbers.Goals as goal

pub returns : goal.returns
returns c = search (rules, state_put)
