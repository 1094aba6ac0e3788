-- `reader_clear::clear_refused` meets its contract.
use Rattle.reader_answer.proofs.RowedHolds.{settled_laws}
use borrow.Author.Rules.{rules}
use Rattle.reader_clear.proofs.clear_refused.Goals as goal

pub returns-in-Read : goal.returns-in-Read
returns-in-Read c = search (rules, settled_laws)

pub returns-in-Refused : goal.returns-in-Refused
returns-in-Refused c = search (rules, settled_laws)
