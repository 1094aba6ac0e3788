use Prim.Native.Nat.{◌+◌, ◌≤◌}
use mathlib.Core.Path.{◌≡◌}
use Rattle.reader_pairs.specs.Keys.{Missed}
use Rattle.reader_pairs.proofs.key_in_wide.Given as goal

abbrev pub invariant-loop-k : goal.invariant-loop-k
invariant-loop-k l = (l.k ≤ 32) × (l.w ≡ 0 → Missed l.keys l.key l.at (l.at + l.k))
