-- `store_replay::Replay::receive` meets its contract.
use Rattle.store_replay.specs.Stepping.{move_laws}
use borrow.Author.Rules.{rules}
use Rattle.store_replay.proofs.Replay.receive.Goals as goal

pub returns-then-more-paper : goal.returns-then-more-paper
returns-then-more-paper c = search (rules, move_laws)

pub returns-then-lot-lots : goal.returns-then-lot-lots
returns-then-lot-lots c = search (rules, move_laws)

pub returns-then-lots-ge-LOTS : goal.returns-then-lots-ge-LOTS
returns-then-lots-ge-LOTS c = search (rules, move_laws)

pub returns : goal.returns
returns c = search (rules, move_laws)
