use mathlib.Core.List.{List}
use lib.IntN.{ℤ, pos}
use lib.ListN.{get_or}
use Rattle.rules.specs.Canon.{is_zero}
use Rattle.writer_tables.proofs.Loops.{Walking}
use Rattle.writer_tables.proofs.all_zero.Given as goal

abbrev pub invariant-loop-i : goal.invariant-loop-i
invariant-loop-i l = Walking (λ (t : List ℤ). is_zero (get_or t l.k (pos 0))) 16 l.atoms l.n l.i
