use Rattle.std.proofs.Common.{◌≡◌, ◌+◌, false}
use Rattle.store_lots.specs.Looking.{Missed}
use Rattle.store_lots.proofs.word_in_block.Given as goal

abbrev pub invariant-loop-k : goal.invariant-loop-k
invariant-loop-k l = l.any ≡ false → Missed l.keys l.word l.i (l.i + l.k)
