-- `line_counts_bonds::enough_pairs` meets its contract.
use native.Mathlib.Nat.{lt_of_le_of_lt, mul-le-mul}
use native.Mathlib.Omega.{arith}
use lib.Dec.{lit<}
use Rattle.line_counts_bonds.specs.Lists.{no_atoms_lem}
use borrow.Author.Rules.{rules}
use Rattle.line_counts_bonds.proofs.enough_pairs.Goals as goal

pub returns-then-n-eq0 : goal.returns-then-n-eq0
returns-then-n-eq0 c = no_atoms_lem _ _ c.if-n-eq0.true

pub overflow_mul-result-2 : goal.overflow_mul-result-2
overflow_mul-result-2 c = record { fits = lt_of_le_of_lt (mul-le-mul {n₂ = 999} {m₂ = 999} c.requires.0 (omega arith)) (lit< tt) }
