use Rattle.std.proofs.Common.{refl}
use Rattle.store_lots.specs.Looking.{second_missed, first_missed}
use Rattle.store_lots.proofs.find_block.Goals as goal

pub returns-then-not-word_in_block : goal.returns-then-not-word_in_block
returns-then-not-word_in_block c = second_missed _ _ _ 0 (λ _. c.if-not-word_in_block.ensures refl) refl

pub returns-then-not-word_in_block-2 : goal.returns-then-not-word_in_block-2
returns-then-not-word_in_block-2 c = first_missed _ _ _ 0 (λ _. c.if-not-word_in_block-2.ensures refl) refl
