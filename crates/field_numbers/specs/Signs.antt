-- Signed numbers as the machine holds them: what tests against zero say, and the size without its sign.
use Rattle.std.specs.Prelude.{ℕ, suc, ◌+◌, ◌-◌, ◌<◌, ◌^◌, ◌≡◌, refl, true, false, T, ltb, ℤ, pos, negsuc, nat_abs, ◌-ℤ◌}
use Rattle.std.proofs.Common.{add-one, arith, sym, ap, ◌∙◌, subst, le-ltb, Fits, SFits, to_z, of_z, to_z-of_z}
use Rattle.std.specs.Int.Signed.{mag, non_neg, lt_z}
use Rattle.std.specs.Int.{w32}

-- ---- a number found below zero: `-1 - z` is one less than its size, so no number is too low for it
pub record Below (z : ℤ) : Type 0 where
  pub less : ℕ
  pub number : z ≡ negsuc less

pub below_by : (z : ℤ) → lt_z z (pos 0) ≡ true → Below z
below_by (pos n) h = absurd (let e : ltb n 0 ≡ false = le-ltb n 0 (omega arith) in let z : ◌≡◌ {A = ℕ} 0 1 = cc in omega arith)
below_by (negsuc n) h = record { less = n; number = refl }

pub from_minus_one : (n : ℕ) → negsuc 0 -ℤ negsuc n ≡ pos n
from_minus_one n =
    let e : suc n - 1 ≡ n = omega arith in
    rw (le-ltb (suc n) 1 (omega arith), e)

module _ (z : ℤ) (f : SFits w32 z) (t : lt_z (to_z w32 (of_z w32 z)) (pos 0) ≡ true) where
  pub below : Below z
  below = below_by z (rw (to_z-of_z f) at t)

  less_is : negsuc 0 -ℤ to_z w32 (of_z w32 z) ≡ pos below.less
  less_is = ap (λ (y : ℤ). negsuc 0 -ℤ y) (to_z-of_z f ∙ below.number) ∙ from_minus_one below.less

  less_small : below.less < 2 ^ 31
  less_small = subst (λ (y : ℤ). mag y < 2 ^ 31) below.number f.sfits

  pub less_fits : SFits w32 (negsuc 0 -ℤ to_z w32 (of_z w32 z))
  less_fits = record { sfits = rw less_is less_small }

  pub less_back : to_z w32 (of_z w32 (negsuc 0 -ℤ to_z w32 (of_z w32 z))) ≡ pos below.less
  less_back = to_z-of_z less_fits ∙ less_is

  pub less_sign : T (non_neg (to_z w32 (of_z w32 (negsuc 0 -ℤ to_z w32 (of_z w32 z)))))
  less_sign = rw less_back tt

  pub less_cast : Fits w32 (nat_abs (to_z w32 (of_z w32 (negsuc 0 -ℤ to_z w32 (of_z w32 z)))))
  less_cast = rw less_back (record { fits = omega (arith, less_small) })

  pub less_plus : Fits w32 (nat_abs (to_z w32 (of_z w32 (negsuc 0 -ℤ to_z w32 (of_z w32 z)))) + 1)
  less_plus = rw less_back (record { fits = omega (arith, less_small) })

  pub less_size : nat_abs (to_z w32 (of_z w32 (negsuc 0 -ℤ to_z w32 (of_z w32 z)))) + 1 ≡ nat_abs z
  less_size = ap (λ (y : ℤ). nat_abs y + 1) less_back ∙ add-one below.less ∙ ap nat_abs (sym below.number)

-- ---- a number found not below zero
pub record Above (z : ℤ) : Type 0 where
  pub size : ℕ
  pub number : z ≡ pos size

pub above_by : (z : ℤ) → lt_z z (pos 0) ≡ false → Above z
above_by (pos n) h = record { size = n; number = refl }
above_by (negsuc n) h = absurd (let z : ◌≡◌ {A = ℕ} 0 1 = cc in omega arith)

module _ (z : ℤ) (f : SFits w32 z) (t : lt_z (to_z w32 (of_z w32 z)) (pos 0) ≡ false) where
  pub above : Above z
  above = above_by z (rw (to_z-of_z f) at t)

  pub same : to_z w32 (of_z w32 z) ≡ pos above.size
  same = to_z-of_z f ∙ above.number

  size_small : above.size < 2 ^ 31
  size_small = subst (λ (y : ℤ). mag y < 2 ^ 31) above.number f.sfits

  pub same_sign : T (non_neg (to_z w32 (of_z w32 z)))
  same_sign = rw same tt

  pub same_cast : Fits w32 (nat_abs (to_z w32 (of_z w32 z)))
  same_cast = rw same (record { fits = omega (arith, size_small) })

  pub same_size : nat_abs (to_z w32 (of_z w32 z)) ≡ nat_abs z
  same_size = ap nat_abs (to_z-of_z f)
