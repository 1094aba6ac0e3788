use Rattle.mend_file.specs.Walked.{start_laws}
use borrow.Author.Rules.{rules}
use Rattle.mend_file.proofs.starts.Goals as goal

pub returns-in-Header : goal.returns-in-Header
returns-in-Header c = search (rules, start_laws)

pub returns-in-Counts : goal.returns-in-Counts
returns-in-Counts c = search (rules, start_laws)

pub returns-in-Atoms : goal.returns-in-Atoms
returns-in-Atoms c = search (rules, start_laws)

pub returns-in-Bonds : goal.returns-in-Bonds
returns-in-Bonds c = search (rules, start_laws)

pub returns-in-Properties : goal.returns-in-Properties
returns-in-Properties c = search (rules, start_laws)

pub returns-in-Over : goal.returns-in-Over
returns-in-Over c = search (rules, start_laws)

pub returns-in-Items : goal.returns-in-Items
returns-in-Items c = search (rules, start_laws)

pub returns-in-Values : goal.returns-in-Values
returns-in-Values c = search (rules, start_laws)
