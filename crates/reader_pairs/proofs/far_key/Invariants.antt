use borrow.Author.Rules.{rules}
use Prim.Native.Nat.{◌-◌}
use Rattle.reader_pairs.specs.Keys.{Searching, searching_laws, searching_on}
use Rattle.reader_pairs.proofs.far_key.Given as goal

abbrev pub invariant-loop-i : goal.invariant-loop-i
invariant-loop-i l = Searching l.keys l.key l.count l.i

abbrev pub decreases-loop-i : goal.decreases-loop-i
decreases-loop-i l = l.count - l.i
