use mathlib.Core.List.{List}
use lib.IntN.{ℤ}
use Rattle.rules.specs.Canon.{bond_row}
use Rattle.writer_row.specs.Row.{bond_holds}
use Rattle.writer_tables.proofs.Loops.{Walking}
use Rattle.writer_tables.proofs.bonds_hold.Given as goal

abbrev pub invariant-loop-bond : goal.invariant-loop-bond
invariant-loop-bond l = Walking (λ (t : List ℤ). bond_holds l.n (bond_row t)) 6 l.bonds l.m l.bond
