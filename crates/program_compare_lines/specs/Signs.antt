-- A signed number of 64 bits: what a test against zero says, and its size without its sign.
use Rattle.std.specs.Prelude.{◌+◌, ◌<◌, ◌^◌, ◌≡◌, true, false, T, ℤ, pos, negsuc, nat_abs, ◌-ℤ◌}
use Rattle.std.proofs.Common.{arith, ap, ◌∙◌, subst, Fits, SFits, to_z, of_z, to_z-of_z}
use Rattle.std.specs.Int.Signed.{mag, non_neg, lt_z}
use Rattle.std.specs.Int.{w64}
use Rattle.field_numbers.specs.Signs.{Below, Above, from_minus_one, below_by, above_by}

module _ (z : ℤ) (f : SFits w64 z) (t : lt_z (to_z w64 (of_z w64 z)) (pos 0) ≡ true) where
  below : Below z
  below = below_by z (rw (to_z-of_z f) at t)

  less_is : negsuc 0 -ℤ to_z w64 (of_z w64 z) ≡ pos below.less
  less_is = ap (λ (y : ℤ). negsuc 0 -ℤ y) (to_z-of_z f ∙ below.number) ∙ from_minus_one below.less

  less_small : below.less < 2 ^ 63
  less_small = subst (λ (y : ℤ). mag y < 2 ^ 63) below.number f.sfits

  pub less_fits : SFits w64 (negsuc 0 -ℤ to_z w64 (of_z w64 z))
  less_fits = record { sfits = rw less_is less_small }

  less_back : to_z w64 (of_z w64 (negsuc 0 -ℤ to_z w64 (of_z w64 z))) ≡ pos below.less
  less_back = to_z-of_z less_fits ∙ less_is

  pub less_sign : T (non_neg (to_z w64 (of_z w64 (negsuc 0 -ℤ to_z w64 (of_z w64 z)))))
  less_sign = rw less_back tt

  pub less_cast : Fits w64 (nat_abs (to_z w64 (of_z w64 (negsuc 0 -ℤ to_z w64 (of_z w64 z)))))
  less_cast = rw less_back (record { fits = omega (arith, less_small) })

  pub less_plus : Fits w64 (nat_abs (to_z w64 (of_z w64 (negsuc 0 -ℤ to_z w64 (of_z w64 z)))) + 1)
  less_plus = rw less_back (record { fits = omega (arith, less_small) })

module _ (z : ℤ) (f : SFits w64 z) (t : lt_z (to_z w64 (of_z w64 z)) (pos 0) ≡ false) where
  above : Above z
  above = above_by z (rw (to_z-of_z f) at t)

  same : to_z w64 (of_z w64 z) ≡ pos above.size
  same = to_z-of_z f ∙ above.number

  size_small : above.size < 2 ^ 63
  size_small = subst (λ (y : ℤ). mag y < 2 ^ 63) above.number f.sfits

  pub same_sign : T (non_neg (to_z w64 (of_z w64 z)))
  same_sign = rw same tt

  pub same_cast : Fits w64 (nat_abs (to_z w64 (of_z w64 z)))
  same_cast = rw same (record { fits = omega (arith, size_small) })

pub ruleset size_laws = (less_fits, less_sign, less_cast, less_plus, same_sign, same_cast)
