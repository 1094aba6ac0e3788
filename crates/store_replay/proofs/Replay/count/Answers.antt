-- `store_replay::Replay::count` meets its contract.
use Rattle.store_replay.specs.Stepping.{move_laws}
use borrow.Author.Rules.{rules}
use Rattle.store_replay.proofs.Replay.count.Goals as goal

pub returns : goal.returns
returns c = search (rules, move_laws)
