use Rattle.std.proofs.Common.{ℕ, true, false, ◌<◌, MatchBool}
use Rattle.text.proofs.any_below.Given as goal

abbrev pub invariant-loop-k : goal.invariant-loop-k
invariant-loop-k g l = MatchBool l.any ((k : ℕ) × (k < l.k) × goal.P-post g l.test k true) ((k : ℕ) → k < l.k → goal.P-post g l.test k false)
