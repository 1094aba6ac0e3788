use borrow.Author.Rules.{rules}
use Rattle.compare_items.specs.Told.{text_laws}
use Rattle.compare_items.proofs.texts.Goals as goal

pub returns-then-same_text : goal.returns-then-same_text
returns-then-same_text c = search (rules, text_laws)

pub returns : goal.returns
returns c = search (rules, text_laws)
