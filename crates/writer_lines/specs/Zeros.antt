-- Numbers of a row that are all zeros: how they are found, and what is written for them.
use Rattle.std.specs.Prelude.{ℕ, zero, suc, ◌+◌, ◌-◌, ◌≤◌, ◌<◌, ◌^◌, ◌≡◌, refl, List, [], ◌∷◌, ◌++◌, Bool, true, false, ◌&&◌, eqb, length, get_or, ℤ, pos}
use Rattle.std.proofs.Common.{add-zero, add-one, ◌∙◌, of_z}
use native.Mathlib.Omega.{arith}
use Rattle.std.proofs.Math.Path.{sym}
use Rattle.std.proofs.Math.Bool.{and-false}
use Rattle.std.specs.Int.Signed.{mag}
use Rattle.std.specs.Int.{w32}
use Rattle.text.specs.Text.{bytes, LF}
use Rattle.field_numbers.specs.Write.{text_by}
use Rattle.text.specs.Laws.{and_true}
use Rattle.rules.specs.Canon.{is_zero, charge_code}
use Rattle.rules.specs.Entries.{is_zero_lem}
use Rattle.writer_lines.specs.Lines.{columns_from, are_zeros, is_plain, values_text, stereo_text}
use Rattle.writer_lines.specs.Signs.{zero_is, zero_not}

-- ---- While they are looked at

zeros_step : (t : List ℤ) (k e : ℕ) → k < e → are_zeros t k (e - k) ≡ (is_zero (get_or t k (pos 0)) && are_zeros t (k + 1) (e - (k + 1)))
unfolding are_zeros
zeros_step t k e h = let d : e - k ≡ suc (e - (k + 1)) = omega arith in rw (d, add-one k)

and_right : (b : Bool) → (b && true) ≡ b
and_right true = refl
and_right false = refl

pub record Looking (t : List ℤ) (i e k : ℕ) (zeros : Bool) : Type 0 where
  pub within : k ≤ e
  pub inside : e ≤ length t
  pub same : are_zeros t i (e - i) ≡ (zeros && are_zeros t k (e - k))

pub looking_start : (t : List ℤ) (i e : ℕ) → i ≤ e → e ≤ length t → Looking t i e i true
looking_start t i e h l = record { within = h; inside = l; same = refl }

module _ (t : List ℤ) (i e k : ℕ) (zeros : Bool) (g : Looking t i e k zeros) where
  pub looking_zero : k < e → mag (get_or t k (pos 0)) < 2 ^ 31 → of_z w32 (get_or t k (pos 0)) ≡ 0 → Looking t i e (k + 1) zeros
  looking_zero h m z =
      record { within = omega arith; inside = g.inside; same = g.same ∙ rw (zeros_step t k e h, zero_is (get_or t k (pos 0)) (record { sfits = m }) z) }

  pub looking_other : k < e → (of_z w32 (get_or t k (pos 0)) ≡ 0 → ⊥) → Looking t i e (k + 1) false
  looking_other h n =
      record { within = omega arith; inside = g.inside; same = g.same ∙ rw (zeros_step t k e h, zero_not (get_or t k (pos 0)) n, and-false zeros) }

  pub looking_end : e ≤ k → zeros ≡ are_zeros t i (e - i)
  unfolding are_zeros
  looking_end h = let d : e - k ≡ 0 = omega arith in sym (g.same ∙ rw (d, and_right zeros))

pub plain_is : (t : List ℤ) (a b : Bool) → a ≡ are_zeros t 8 8 → a ≡ true → b ≡ are_zeros t 4 3 → b ≡ is_plain t
plain_is t a b e h k = k ∙ sym (rw (sym e ∙ h))

pub plain_not : (t : List ℤ) (a : Bool) → a ≡ are_zeros t 8 8 → a ≡ false → false ≡ is_plain t
plain_not t a e h = sym (rw (sym e ∙ h))

pub ruleset zeros_laws = (looking_start, looking_zero, looking_other, looking_end, plain_is, plain_not)

-- ---- What is written for them

zeros_get : (t : List ℤ) (i count j : ℕ) → are_zeros t i count ≡ true → j < count → get_or t (i + j) (pos 0) ≡ pos 0
unfolding are_zeros
zeros_get t i zero j h l = absurd (omega arith)
zeros_get t i (suc count) zero h l = rw (add-zero i) (is_zero_lem (get_or t i (pos 0)) (and_true (is_zero (get_or t i (pos 0))) (are_zeros t (suc i) count) h).0)
zeros_get t i (suc count) (suc j) h l =
    let e : i + suc j ≡ suc i + j = omega arith in
    rw e (zeros_get t (suc i) count j (and_true (is_zero (get_or t i (pos 0))) (are_zeros t (suc i) count) h).1 (omega arith))

pub values_plain : (t : List ℤ) → is_plain t ≡ true → values_text t ≡ bytes " 0  0  0  0  0  0  0  0  0  0  0  0" ++ (LF ∷ [])
unfolding values_text columns_from text_by charge_code
values_plain t h =
    let b = and_true (are_zeros t 8 8) (are_zeros t 4 3) h in
    let a = zeros_get t 8 8 in
    let c = zeros_get t 4 3 in
    rw (
      c 0 b.1 (omega arith),
      c 1 b.1 (omega arith),
      c 2 b.1 (omega arith),
      a 0 b.0 (omega arith),
      a 1 b.0 (omega arith),
      a 2 b.0 (omega arith),
      a 3 b.0 (omega arith),
      a 4 b.0 (omega arith),
      a 5 b.0 (omega arith),
      a 6 b.0 (omega arith),
      a 7 b.0 (omega arith),
    )

pub stereo_plain : (t : List ℤ) → are_zeros t 3 3 ≡ true → stereo_text t ≡ bytes "  0  0  0  0" ++ (LF ∷ [])
unfolding stereo_text columns_from text_by
stereo_plain t h =
    let a = zeros_get t 3 3 in
    rw (a 0 h (omega arith), a 1 h (omega arith), a 2 h (omega arith))
