use Rattle.sets_words.proofs.Words.{Sizing}
use Rattle.sets_words.proofs.size.Given as goal

abbrev pub invariant-loop-w : goal.invariant-loop-w
invariant-loop-w l = Sizing l.words l.w-index l.n
