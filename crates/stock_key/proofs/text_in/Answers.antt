use Rattle.stock_key.specs.Steps.{text_laws}
use borrow.Author.Rules.{rules}
use Rattle.stock_key.proofs.text_in.Goals as goal

pub returns-then-width-to : goal.returns-then-width-to
returns-then-width-to c = search (rules, text_laws)

pub returns-then-to-from : goal.returns-then-to-from
returns-then-to-from c = search (rules, text_laws)

pub returns-then-s-to : goal.returns-then-s-to
returns-then-s-to c = search (rules, text_laws)

pub returns : goal.returns
returns c = search (rules, text_laws)
