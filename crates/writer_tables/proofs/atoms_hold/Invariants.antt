use mathlib.Core.List.{List}
use lib.IntN.{ℤ}
use Rattle.rules.specs.Canon.{atom_row}
use Rattle.writer_row.specs.Row.{atom_holds}
use Rattle.writer_tables.proofs.Loops.{Walking}
use Rattle.writer_tables.proofs.atoms_hold.Given as goal

abbrev pub invariant-loop-atom : goal.invariant-loop-atom
invariant-loop-atom l = Walking (λ (t : List ℤ). atom_holds l.n (atom_row t)) 16 l.atoms l.n l.atom
