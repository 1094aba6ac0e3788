use Rattle.stock_key.specs.Steps.{byte_laws}
use borrow.Author.Rules.{rules}
use Rattle.stock_key.proofs.byte_of.Goals as goal

pub returns-then-at-to : goal.returns-then-at-to
returns-then-at-to c = search (rules, byte_laws)

pub returns : goal.returns
returns c = search (rules, byte_laws)
