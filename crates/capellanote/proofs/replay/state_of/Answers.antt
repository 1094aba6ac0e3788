-- `capellanote::replay::state_of` meets its contract.
use Rattle.capellanote.specs.Replay.{state_read}
use borrow.Author.Rules.{rules}
use Rattle.capellanote.proofs.replay.state_of.Goals as goal

pub returns : goal.returns
returns c = search (rules, state_read)
