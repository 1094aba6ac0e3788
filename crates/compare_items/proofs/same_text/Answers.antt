use Rattle.compare_items.specs.Told.{text_laws}
use borrow.Author.Rules.{rules}
use Rattle.compare_items.proofs.same_text.Goals as goal

pub returns-then-a-b : goal.returns-then-a-b
returns-then-a-b c = search (rules, text_laws)

pub returns : goal.returns
returns c = search (rules, text_laws)
