-- Signed numbers as the machine holds them: what a cast and a negation give, at any width.
use Prim.Native.Nat.{ℕ, zero, suc, ◌+◌, ◌<◌, ◌^◌}
use native.Mathlib.Numerals.{add-one}
use native.Mathlib.Omega.{arith}
use mathlib.Core.Path.{◌≡◌, sym, ap, ◌∙◌, subst}
use mathlib.Core.Bool.{true, false}
use lib.IntN.{ℤ, pos, negsuc, neg_ℤ, nat_abs, ◌-ℤ◌, +ℤ_idl}
use lib.Signed.{mag, lt_z}
use lib.Seq.{sets}
use mir.Syntax.{Width, w32}
use mir.Val.{SFits, to_z, of_z, hbits}
use mir.Facts.{to_z_pos, to_z-of_z}
use Rattle.text.specs.Text.{Bytes}
use Rattle.field_numbers.specs.Write.{sized_text, signed_text}
use Rattle.field_numbers.specs.Signs.{below, less_back, less_fits, less_sign, less_cast, less_plus, above, same, same_sign, same_cast}

neg_mag : (n : ℕ) {m : ℕ} → n < m → mag (neg_ℤ (pos n)) < m
neg_mag zero h = h
neg_mag (suc n) h = omega arith

zero_less : (w : Width) {n : ℕ} → n < 2 ^ hbits w → pos 0 -ℤ to_z w n ≡ neg_ℤ (pos n)
zero_less w {n} h = ap (λ (z : ℤ). pos 0 -ℤ z) (to_z_pos w h) ∙ +ℤ_idl (neg_ℤ (pos n))

-- `0 - (n as iW)` does not wrap
pub negated_fits : (w : Width) {n : ℕ} → n < 2 ^ hbits w → SFits w (pos 0 -ℤ to_z w n)
negated_fits w {n} h = record { sfits = subst (λ (z : ℤ). mag z < 2 ^ hbits w) (sym (zero_less w h)) (neg_mag n h) }

-- and is -n
pub negated : (w : Width) {n : ℕ} → n < 2 ^ hbits w → to_z w (of_z w (pos 0 -ℤ to_z w n)) ≡ neg_ℤ (pos n)
negated w h = to_z-of_z (negated_fits w h) ∙ zero_less w h

-- ---- the text of a number by its sign

module _ (z : ℤ) (f : SFits w32 z) (t : lt_z (to_z w32 (of_z w32 z)) (pos 0) ≡ true) where
  pub less_text : (out : Bytes) (l : Bytes) (at width : ℕ)
      → out ≡ sets l at (sized_text width true (nat_abs (to_z w32 (of_z w32 (negsuc 0 -ℤ to_z w32 (of_z w32 z)))) + 1)) → out ≡ sets l at (signed_text width z)
  less_text out l at width e =
      e
      ∙ ap (λ (k : ℕ). sets l at (sized_text width true k)) (ap (λ (y : ℤ). nat_abs y + 1) (less_back z f t) ∙ add-one (below z f t).less)
      ∙ ap (λ (y : ℤ). sets l at (signed_text width y)) (sym (below z f t).number)

module _ (z : ℤ) (f : SFits w32 z) (t : lt_z (to_z w32 (of_z w32 z)) (pos 0) ≡ false) where
  pub same_text : (out : Bytes) (l : Bytes) (at width : ℕ) → out ≡ sets l at (sized_text width false (nat_abs (to_z w32 (of_z w32 z)))) → out ≡ sets l at (signed_text width z)
  same_text out l at width e =
      e ∙ ap (λ (y : ℤ). sets l at (sized_text width false (nat_abs y))) (same z f t) ∙ ap (λ (y : ℤ). sets l at (signed_text width y)) (sym (above z f t).number)

pub ruleset sign_of_laws = (less_fits, less_sign, less_cast, less_plus, less_text, same_sign, same_cast, same_text)
