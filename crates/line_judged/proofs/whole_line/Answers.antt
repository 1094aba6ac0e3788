-- `line_judged::whole_line` meets its contract.
use borrow.Author.Rules.{rules}
use Rattle.line_judged.proofs.Looking.{whole_laws}
use Rattle.line_judged.proofs.whole_line.Goals as goal

pub find-k-requires : goal.find-k-requires
find-k-requires c = search (rules, whole_laws)

pub overflow_add-result : goal.overflow_add-result
overflow_add-result c = search (rules, whole_laws)

pub returns-then-k-at : goal.returns-then-k-at
returns-then-k-at c = search (rules, whole_laws)

pub bounds-s-k : goal.bounds-s-k
bounds-s-k c = search (rules, whole_laws)

pub overflow_add-result-then-s-k-eq13 : goal.overflow_add-result-then-s-k-eq13
overflow_add-result-then-s-k-eq13 c = search (rules, whole_laws)

pub returns-then-s-k-eq13 : goal.returns-then-s-k-eq13
returns-then-s-k-eq13 c = search (rules, whole_laws)

pub overflow_add-result-2 : goal.overflow_add-result-2
overflow_add-result-2 c = search (rules, whole_laws)

pub returns : goal.returns
returns c = search (rules, whole_laws)
