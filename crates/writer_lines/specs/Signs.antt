-- Signed numbers as the machine holds them: sizes, and tests against a number.
use Rattle.std.specs.Prelude.{ℕ, zero, suc, ◌<◌, ◌^◌, ◌≡◌, refl, true, false, ℤ, pos, negsuc}
use Rattle.std.proofs.Common.{sym, ◌∙◌, ne_eqb, SFits, to_z, of_z, to_z-of_z}
use Rattle.std.proofs.Math.Path.{ap}
use Rattle.std.proofs.Math.Bool.{and-false}
use Rattle.std.specs.Int.Signed.{mag}
use Rattle.std.specs.Int.{w32}
use Rattle.field_numbers.specs.Signs.{less_fits, less_sign, less_cast, less_plus, less_size, same_sign, same_cast, same_size}
use Rattle.rules.specs.Canon.{code_of_charge, is_zero, is_two, charge_code}

-- a number that was read out of a table is itself when it is handed on
pub hop : (z : ℤ) → mag z < 2 ^ 31 → to_z w32 (of_z w32 z) ≡ z
hop z h = to_z-of_z {w = w32} {z = z} (record { sfits = h })

pub ruleset size_laws = (less_fits, less_sign, less_cast, less_plus, less_size, same_sign, same_cast, same_size)

-- ---- Tests, which are of the number's bits

is_number_lem : (z : ℤ) (b : ℕ) → SFits w32 z → of_z w32 z ≡ b → z ≡ to_z w32 b
is_number_lem z b f e = sym (to_z-of_z f) ∙ ap (to_z w32) e

module _ (z : ℤ) (f : SFits w32 z) where
  pub zero_is : of_z w32 z ≡ 0 → is_zero z ≡ true
  zero_is e = ap is_zero (is_number_lem z 0 f e)

pub zero_not : (z : ℤ) → (of_z w32 z ≡ 0 → ⊥) → is_zero z ≡ false
zero_not (pos k) h = ne_eqb k 0 (λ e. h (ap (λ (j : ℕ). of_z w32 (pos j)) e))
zero_not (negsuc k) h = refl

pub two_not : (z : ℤ) → (of_z w32 z ≡ 2 → ⊥) → is_two z ≡ false
two_not (pos k) h = ne_eqb k 2 (λ e. h (ap (λ (j : ℕ). of_z w32 (pos j)) e))
two_not (negsuc k) h = refl

-- ---- Charge codes

pub code_is : (z : ℤ) (k b : ℕ) → SFits w32 z → of_z w32 z ≡ b → k ≡ code_of_charge (to_z w32 b) → k ≡ code_of_charge z
code_is z k b f e h = h ∙ ap code_of_charge (sym (is_number_lem z b f e))

-- no code for any other charge
pub code_none : (z : ℤ) → (of_z w32 z ≡ 3 → ⊥) → (of_z w32 z ≡ 2 → ⊥) → (of_z w32 z ≡ 1 → ⊥) →
    (of_z w32 z ≡ 4294967295 → ⊥) → (of_z w32 z ≡ 4294967294 → ⊥) → (of_z w32 z ≡ 4294967293 → ⊥) → 0 ≡ code_of_charge z
code_none (pos zero) a b c d e f = refl
code_none (pos (suc zero)) a b c d e f = absurd (c refl)
code_none (pos (suc (suc zero))) a b c d e f = absurd (b refl)
code_none (pos (suc (suc (suc zero)))) a b c d e f = absurd (a refl)
code_none (pos (suc (suc (suc (suc k))))) a b c d e f = refl
code_none (negsuc zero) a b c d e f = absurd (d refl)
code_none (negsuc (suc zero)) a b c d e f = absurd (e refl)
code_none (negsuc (suc (suc zero))) a b c d e f = absurd (f refl)
code_none (negsuc (suc (suc (suc k)))) a b c d e f = refl

module _ (charge radical : ℤ) (f : SFits w32 charge) (g : SFits w32 radical) where
  pub code_plain : (r : ℕ) → of_z w32 radical ≡ 0 → r ≡ code_of_charge (to_z w32 (of_z w32 charge)) → r ≡ charge_code charge radical
  unfolding charge_code
  code_plain r h e = e ∙ ap code_of_charge (to_z-of_z f) ∙ rw (zero_is radical g h)

  pub code_radical : of_z w32 radical ≡ 2 → of_z w32 charge ≡ 0 → 4 ≡ charge_code charge radical
  unfolding charge_code
  code_radical h k = rw (is_number_lem radical 2 g h, zero_is charge f k)

  pub code_charged : (of_z w32 radical ≡ 0 → ⊥) → (of_z w32 charge ≡ 0 → ⊥) → 0 ≡ charge_code charge radical
  unfolding charge_code
  code_charged h k = rw (zero_not radical h, zero_not charge k)

  pub code_other : (of_z w32 radical ≡ 0 → ⊥) → (of_z w32 radical ≡ 2 → ⊥) → 0 ≡ charge_code charge radical
  unfolding charge_code
  code_other h k = rw (zero_not radical h, two_not radical k, and-false (is_zero charge))

pub ruleset code_laws = (code_is, code_none, code_plain, code_radical, code_charged, code_other)
