-- `capellanote::replay::numbers` meets its contract.
use Rattle.capellanote.specs.Replay.{number_laws}
use borrow.Author.Rules.{rules}
use Rattle.capellanote.proofs.replay.numbers.Goals as goal

pub returns-in-Received : goal.returns-in-Received
returns-in-Received c = search (rules, number_laws)

pub returns-in-Issued : goal.returns-in-Issued
returns-in-Issued c = search (rules, number_laws)

pub returns-in-Counted : goal.returns-in-Counted
returns-in-Counted c = search (rules, number_laws)

pub returns-in-Day : goal.returns-in-Day
returns-in-Day c = search (rules, number_laws)

pub returns-in-Skipped : goal.returns-in-Skipped
returns-in-Skipped c = search (rules, number_laws)

pub returns-in-Refused : goal.returns-in-Refused
returns-in-Refused c = search (rules, number_laws)

pub returns-in-End : goal.returns-in-End
returns-in-End c = search (rules, number_laws)
