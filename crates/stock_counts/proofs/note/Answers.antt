use Rattle.stock_counts.specs.Agree.{note_laws}
use borrow.Author.Rules.{rules}
use Rattle.stock_counts.proofs.note.Goals as goal

pub returns-then-lots-gt-LOTS : goal.returns-then-lots-gt-LOTS
returns-then-lots-gt-LOTS c = search (rules, note_laws)

pub returns-then-lots-lot : goal.returns-then-lots-lot
returns-then-lots-lot c = search (rules, note_laws)

pub returns : goal.returns
returns c = search (rules, note_laws)
