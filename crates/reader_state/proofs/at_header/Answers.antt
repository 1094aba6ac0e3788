-- `reader_state::at_header` meets its contract.
use Rattle.reader_state.proofs.Places.{header_laws, untitled}
use borrow.Author.Rules.{rules}
use Rattle.reader_state.proofs.at_header.Goals as goal

pub returns-then-owed-eq3 : goal.returns-then-owed-eq3
returns-then-owed-eq3 c = search (rules, header_laws, untitled)

pub returns-then-owed-eq2 : goal.returns-then-owed-eq2
returns-then-owed-eq2 c = search (rules, header_laws, untitled)

pub returns : goal.returns
returns c = search (rules, header_laws, untitled)
