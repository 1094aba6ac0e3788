-- `sets_words::put_in_row` meets its contract.
use Rattle.sets_words.proofs.Words.{row_with}
use borrow.Author.Rules.{rules}
use Rattle.sets_words.proofs.put_in_row.Goals as goal

pub returns : goal.returns
returns c = row_with _ _ _ _ c.with_bit.ensures
