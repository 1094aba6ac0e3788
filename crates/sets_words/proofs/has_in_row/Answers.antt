-- `sets_words::has_in_row` meets its contract.
use Rattle.sets_words.proofs.Words.{row_has}
use borrow.Author.Rules.{rules}
use Rattle.sets_words.proofs.has_in_row.Goals as goal

pub returns : goal.returns
returns c = row_has _ _ _
