-- `reader_check::check` meets its contract.
use borrow.Author.Rules.{rules}
use Rattle.reader_check.specs.Promised.{promise_laws}
use Rattle.reader_check.proofs.check.Goals as goal

pub returns-then-kind-eq0 : goal.returns-then-kind-eq0
returns-then-kind-eq0 c = search (rules, promise_laws)

pub returns-then-kind-eq1 : goal.returns-then-kind-eq1
returns-then-kind-eq1 c = search (rules, promise_laws)

pub returns : goal.returns
returns c = search (rules, promise_laws)
