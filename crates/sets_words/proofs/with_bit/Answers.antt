-- `sets_words::with_bit` meets its contract.
use Rattle.sets_words.specs.Members.{word_there}
use Rattle.sets_words.proofs.Words.{sum_fits, sum_with}
use borrow.Author.Rules.{rules}
use Rattle.sets_words.proofs.with_bit.Goals as goal

pub returns-then-w-k-eq1 : goal.returns-then-w-k-eq1
returns-then-w-k-eq1 c = search (rules, word_there)

pub overflow_add-result : goal.overflow_add-result
overflow_add-result c = search (rules, sum_fits)

pub returns : goal.returns
returns c = search (rules, sum_with)
