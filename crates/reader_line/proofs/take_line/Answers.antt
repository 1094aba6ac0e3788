-- `reader_line::take_line` meets its contract.
use Rattle.reader_line.proofs.Taking.{taking_laws}
use borrow.Author.Rules.{rules}
use Rattle.reader_line.proofs.take_line.Goals as goal

pub put_atom-requires : goal.put_atom-requires
put_atom-requires c = search (rules, taking_laws, c.in_ok-r.was)

pub atom_more-requires : goal.atom_more-requires
atom_more-requires c = search (rules, taking_laws, c.in_ok-r.was)

pub returns-in-Next : goal.returns-in-Next
returns-in-Next c = search (rules, taking_laws, c.in_ok-r.was)

pub returns-in-Headed : goal.returns-in-Headed
returns-in-Headed c = search (rules, taking_laws, c.in_ok-r.was)

pub returns-in-Atom : goal.returns-in-Atom
returns-in-Atom c = search (rules, taking_laws, c.in_ok-r.was)

pub returns-in-Bond : goal.returns-in-Bond
returns-in-Bond c = search (rules, taking_laws, c.in_ok-r.was)

pub returns-in-Ended : goal.returns-in-Ended
returns-in-Ended c = search (rules, taking_laws, c.in_ok-r.was)

pub returns-in-Title : goal.returns-in-Title
returns-in-Title c = search (rules, taking_laws, c.in_ok-r.was)

pub returns-in-Value : goal.returns-in-Value
returns-in-Value c = search (rules, taking_laws, c.in_ok-r.was)

pub returns-in-Blank : goal.returns-in-Blank
returns-in-Blank c = search (rules, taking_laws, c.in_ok-r.was)

pub returns-in-Done : goal.returns-in-Done
returns-in-Done c = search (rules, taking_laws, c.in_ok-r.was)

pub returns-in_err-r : goal.returns-in_err-r
returns-in_err-r c = search (rules, taking_laws, c.in_err-r.was)
