-- `sets_words::put` meets its contract.
use Rattle.sets_words.proofs.Words.{put_with}
use borrow.Author.Rules.{rules}
use Rattle.sets_words.proofs.put.Goals as goal

pub returns : goal.returns
returns c = put_with _ _ _ c.with_bit.ensures
