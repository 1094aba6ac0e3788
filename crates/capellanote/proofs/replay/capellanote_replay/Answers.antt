-- `capellanote::replay::capellanote_replay` meets its contract.
use Rattle.capellanote.specs.Replay.{replayed}
use borrow.Author.Rules.{rules}
use Rattle.capellanote.proofs.replay.capellanote_replay.Goals as goal

pub returns : goal.returns
returns c = search (rules, replayed)
