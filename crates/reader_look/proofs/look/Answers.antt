-- `reader_look::look` meets its contract.
use Rattle.reader_look.proofs.Good.{look_laws}
use borrow.Author.Rules.{rules}
use Rattle.reader_look.proofs.look.Goals as goal

pub hunt-requires : goal.hunt-requires
hunt-requires c = search (rules, look_laws)

pub returns-in-At : goal.returns-in-At
returns-in-At c = search (rules, look_laws)

pub returns-in-Beyond : goal.returns-in-Beyond
returns-in-Beyond c = search (rules, look_laws)
