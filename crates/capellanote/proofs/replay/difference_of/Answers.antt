-- `capellanote::replay::difference_of` meets its contract.
use Rattle.capellanote.specs.Replay.{difference_laws}
use borrow.Author.Rules.{rules}
use Rattle.capellanote.proofs.replay.difference_of.Goals as goal

pub returns-in-Received : goal.returns-in-Received
returns-in-Received c = search (rules, difference_laws)

pub returns-in-Issued : goal.returns-in-Issued
returns-in-Issued c = search (rules, difference_laws)

pub returns-in-Counted : goal.returns-in-Counted
returns-in-Counted c = search (rules, difference_laws)

pub returns-in-Day : goal.returns-in-Day
returns-in-Day c = search (rules, difference_laws)

pub returns-in-Skipped : goal.returns-in-Skipped
returns-in-Skipped c = search (rules, difference_laws)

pub returns-in-Refused : goal.returns-in-Refused
returns-in-Refused c = search (rules, difference_laws)

pub returns-in-End : goal.returns-in-End
returns-in-End c = search (rules, difference_laws)
