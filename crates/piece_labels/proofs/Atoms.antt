-- An atom read from the table of bonds.
use Prim.Native.Nat.{ℕ, ◌≤◌}
use native.Mathlib.Omega.{arith}
use mathlib.Core.Path.{◌≡◌, ap, ◌∙◌}
use mathlib.Core.List.{List}
use lib.Dec.{T}
use lib.IntN.{ℤ, pos, nat_abs}
use lib.ListN.{get_or}
use lib.Signed.{non_neg}
use mir.Syntax.{w32, w64}
use mir.Val.{Fits, SFits, to_z, of_z}
use mir.ValLaws.{to_z-of_z}
use Rattle.rules.specs.Record.{limit}
use Rattle.piece_labels.specs.Table.{atom_at, AtomIn}

module _ (n : ℕ) (t : List ℤ) (i : ℕ) (g : AtomIn n t i) (few : n ≤ limit) where
  fits : SFits w32 (get_or t i (pos 0))
  fits = record { sfits = rw g.is (omega (arith, g.high)) }

  same : to_z w32 (of_z w32 (get_or t i (pos 0))) ≡ pos (atom_at t i)
  same = to_z-of_z w32 (get_or t i (pos 0)) fits ∙ g.is

  pub atom_cast : T (non_neg (to_z w32 (of_z w32 (get_or t i (pos 0))))) × Fits w64 (nat_abs (to_z w32 (of_z w32 (get_or t i (pos 0)))))
  atom_cast = (rw same tt, rw same (record { fits = omega (arith, g.high) }))

  pub atom_read : nat_abs (to_z w32 (of_z w32 (get_or t i (pos 0)))) ≡ atom_at t i
  atom_read = ap nat_abs same
