use Rattle.stock_join.specs.Steps.{next_laws}
use borrow.Author.Rules.{rules}
use Rattle.stock_join.proofs.Join.next.Goals as goal

pub returns-in-Under : goal.returns-in-Under
returns-in-Under c = search (rules, next_laws)

pub returns-in-Never : goal.returns-in-Never
returns-in-Never c = search (rules, next_laws)

pub returns-in-Keyless : goal.returns-in-Keyless
returns-in-Keyless c = search (rules, next_laws)

pub returns-in-Nowhere : goal.returns-in-Nowhere
returns-in-Nowhere c = search (rules, next_laws)
