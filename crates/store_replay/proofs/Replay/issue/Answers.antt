-- `store_replay::Replay::issue` meets its contract.
use Rattle.store_replay.specs.Stepping.{move_laws}
use borrow.Author.Rules.{rules}
use Rattle.store_replay.proofs.Replay.issue.Goals as goal

pub returns-then-paper-less : goal.returns-then-paper-less
returns-then-paper-less c = search (rules, move_laws)

pub returns-then-lot-lots : goal.returns-then-lot-lots
returns-then-lot-lots c = search (rules, move_laws)

pub returns : goal.returns
returns c = search (rules, move_laws)
