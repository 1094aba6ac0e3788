-- `is_bad` meets its contract: the two tests of the rule.
use borrow.Author.Rules.{rules}
use borrow.Author.Tests.{lt-ltb, le-ltb}
use Rattle.text.proofs.is_bad.Goals as goal

pub returns-then-b-lt32 : goal.returns-then-b-lt32
returns-then-b-lt32 c = search (rules, lt-ltb, le-ltb)

pub returns : goal.returns
returns c = search (rules, lt-ltb, le-ltb)
