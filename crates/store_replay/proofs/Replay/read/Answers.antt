-- `store_replay::Replay::read` meets its contract.
use Rattle.store_replay.specs.Stepping.{read_laws}
use borrow.Author.Rules.{rules}
use Rattle.store_replay.proofs.Replay.read.Goals as goal

pub receive-requires : goal.receive-requires
receive-requires c = search (rules, read_laws)

pub issue-requires : goal.issue-requires
issue-requires c = search (rules, read_laws)

pub count-requires : goal.count-requires
count-requires c = search (rules, read_laws)

pub returns-in-Received : goal.returns-in-Received
returns-in-Received c = search (rules, read_laws)

pub returns-in-Issued : goal.returns-in-Issued
returns-in-Issued c = search (rules, read_laws)

pub returns-in-Counted : goal.returns-in-Counted
returns-in-Counted c = search (rules, read_laws)

pub returns-in-Day : goal.returns-in-Day
returns-in-Day c = search (rules, read_laws)

pub returns-in-Unknown : goal.returns-in-Unknown
returns-in-Unknown c = search (rules, read_laws)

pub returns-in-Cut : goal.returns-in-Cut
returns-in-Cut c = search (rules, read_laws)
