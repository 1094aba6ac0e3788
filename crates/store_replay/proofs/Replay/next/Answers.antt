-- `store_replay::Replay::next` meets its contract.
use Rattle.store_replay.specs.Stepping.{next_laws}
use Rattle.store_replay.specs.Follows.{promised}
use borrow.Author.Rules.{rules}
use Rattle.store_replay.proofs.Replay.next.Goals as goal

pub returns-then-log-self : goal.returns-then-log-self
returns-then-log-self c = search (rules, next_laws, promised)

pub returns-then-self-gt-LOTS : goal.returns-then-self-gt-LOTS
returns-then-self-gt-LOTS c = search (rules, next_laws, promised)

pub returns-then-self-ge-FAR : goal.returns-then-self-ge-FAR
returns-then-self-ge-FAR c = search (rules, next_laws, promised)

pub returns : goal.returns
returns c = search (rules, next_laws, promised)
