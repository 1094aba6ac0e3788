use Rattle.stock_join.specs.Steps.{place_laws}
use borrow.Author.Rules.{rules}
use Rattle.stock_join.proofs.place_in.Goals as goal

pub returns-then-lots-gt-LOTS : goal.returns-then-lots-gt-LOTS
returns-then-lots-gt-LOTS c = search (rules, place_laws)

pub returns-then-lot-lots : goal.returns-then-lot-lots
returns-then-lot-lots c = search (rules, place_laws)

pub returns : goal.returns
returns c = search (rules, place_laws)
