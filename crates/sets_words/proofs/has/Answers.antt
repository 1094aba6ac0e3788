-- `sets_words::has` meets its contract.
use Rattle.sets_words.specs.Bits.{bit_at, has_bit}
use borrow.Author.Rules.{rules}
use Rattle.sets_words.proofs.has.Goals as goal

pub returns : goal.returns
unfolding has_bit bit_at
returns c = search rules
