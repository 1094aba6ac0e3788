-- `writer_parts::good_turn` meets its contract.
use Rattle.writer_parts.proofs.Turns.{turn_laws}
use borrow.Author.Rules.{rules}
use Rattle.writer_parts.proofs.good_turn.Goals as goal

pub returns-in-First : goal.returns-in-First
returns-in-First c = search (rules, turn_laws)

pub returns-in-Second : goal.returns-in-Second
returns-in-Second c = search (rules, turn_laws)

pub returns-in-Third : goal.returns-in-Third
returns-in-Third c = search (rules, turn_laws)

pub returns-in-Full : goal.returns-in-Full
returns-in-Full c = search (rules, turn_laws)

pub returns-in-Items : goal.returns-in-Items
returns-in-Items c = search (rules, turn_laws)

pub returns-in-Values : goal.returns-in-Values
returns-in-Values c = search (rules, turn_laws)
