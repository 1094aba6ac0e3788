-- `line_to` meets its contract: the tests of the definition.
use borrow.Author.Rules.{rules}
use borrow.Author.Tests.{lt-ltb, le-ltb, eq-eqb, ne_eqb}
use Rattle.text.specs.Find.{line_to}
use Rattle.text.proofs.line_to.Goals as goal

pub returns-then-s-k-eq13 : goal.returns-then-s-k-eq13
unfolding line_to
returns-then-s-k-eq13 c = search (rules, lt-ltb, eq-eqb)

pub returns-else-s-k-eq13 : goal.returns-else-s-k-eq13
unfolding line_to
returns-else-s-k-eq13 c = search (rules, lt-ltb, ne_eqb)

pub returns-else-at-k : goal.returns-else-at-k
unfolding line_to
returns-else-at-k c = search (rules, le-ltb)
