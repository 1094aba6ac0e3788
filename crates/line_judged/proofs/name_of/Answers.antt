-- `line_judged::name_of` meets its contract.
use borrow.Author.Rules.{rules}
use Rattle.line_judged.proofs.Looking.{name_laws}
use Rattle.line_judged.proofs.name_of.Goals as goal

pub find-open-requires : goal.find-open-requires
find-open-requires c = search (rules, name_laws)

pub overflow_add-from : goal.overflow_add-from
overflow_add-from c = search (rules, name_laws)

pub find-requires : goal.find-requires
find-requires c = search (rules, name_laws)

pub returns : goal.returns
returns c = search (rules, name_laws)
