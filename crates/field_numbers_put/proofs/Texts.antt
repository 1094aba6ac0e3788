-- Laws on the walk that writes a number from its last column to its first.
use Prim.Native.Nat.{ℕ, zero, suc, ◌+◌, ◌-◌, ◌*◌, ◌/◌, ◌%◌, ◌≤◌, ◌<◌}
use native.Mathlib.Nat.{add-zero}
use native.Mathlib.Omega.{arith}
use mathlib.Core.Path.{◌≡◌, refl, sym, ap, ◌∙◌}
use mathlib.Core.Bool.{Bool, true, false}
use mathlib.Core.List.{[], ◌∷◌, ◌++◌}
use lib.Dec.{ltb}
use borrow.Author.Tests.{le-ltb, lt-ltb, ltb-true, ltb-false}
use lib.ListN.{length, set, length-set}
use lib.Seq.{sets, set_comm}
use Rattle.text.specs.Text.{Bytes}
use Rattle.field_numbers.specs.Write.{text_by, sized_text, first_digit}
use Rattle.field_numbers.specs.Written.{text_length}

-- a run of stores, the last one first
sets_snoc : (xs l : Bytes) (i d : ℕ) → sets l i (xs ++ (d ∷ [])) ≡ sets (set l (i + length xs) d) i xs
sets_snoc [] l i d = rw (add-zero i)
sets_snoc (x ∷ xs) l i d =
    let e : suc i + length xs ≡ i + suc (length xs) = omega arith in
    sets_snoc xs (set l i x) (suc i) d
    ∙ ap (λ (t : Bytes). sets t (suc i) xs) (ap (λ (k : ℕ). set (set l i x) k d) e ∙ set_comm l i (i + suc (length xs)) x d (λ q. omega arith))

-- the columns from `at` up to i are still to be written: what the whole text gives is what their text gives
pub record Writing (out₀ : Bytes) (at width : ℕ) (minus : Bool) (k : ℕ) (out : Bytes) (i q : ℕ) (more sign : Bool) : Type 0 where
  pub low : at ≤ i
  pub high : i ≤ at + width
  pub size : length out ≡ length out₀
  pub same : sets out₀ at (sized_text width minus k) ≡ sets out at (text_by (i - at) more sign q)

pub writing_start : (out₀ : Bytes) (at width : ℕ) (minus : Bool) (k : ℕ) → Writing out₀ at width minus k out₀ (at + width) k true minus
writing_start out₀ at width minus k =
    let e : at + width - at ≡ width = omega arith in
    record { low = omega arith; high = omega arith; size = refl; same = rw e }

module _ (out₀ : Bytes) (at width : ℕ) (minus : Bool) (k : ℕ) (out : Bytes) (i q : ℕ) (more sign : Bool) (w : Writing out₀ at width minus k out i q more sign) where
  -- column i is written with d, and these are the columns before it
  module _ (h : at < i) where
    put : (d : ℕ) (more' sign' : Bool) (q' : ℕ) → text_by (suc (i - 1 - at)) more sign q ≡ text_by (i - 1 - at) more' sign' q' ++ (d ∷ [])
        → Writing out₀ at width minus k (set out (i - 1) d) (i - 1) q' more' sign'
    put d more' sign' q' t =
        let one : i - at ≡ suc (i - 1 - at) = omega arith in
        let xs = text_by (i - 1 - at) more' sign' q' in
        let e : at + length xs ≡ i - 1 = omega (arith, text_length (i - 1 - at) more' sign' q') in
        record {
          low = omega arith;
          high = omega (arith, w.high);
          size = length-set out (i - 1) d ∙ w.size;
          same = w.same ∙ rw (one, t) (sets_snoc xs out at d ∙ ap (λ (n : ℕ). sets (set out n d) at xs) e);
        }

    pub writing_digit : more ≡ true → Writing out₀ at width minus k (set out (i - 1) (48 + q % 10)) (i - 1) (q / 10) (ltb 9 q) sign
    unfolding text_by
    writing_digit m = put (48 + q % 10) (ltb 9 q) sign (q / 10) (rw m)

    pub writing_sign : more ≡ false → sign ≡ true → Writing out₀ at width minus k (set out (i - 1) 45) (i - 1) q more false
    unfolding text_by
    writing_sign m s = put 45 more false q (rw (m, s))

    pub writing_space : more ≡ false → sign ≡ false → Writing out₀ at width minus k (set out (i - 1) 32) (i - 1) q more sign
    unfolding text_by
    writing_space m s = put 32 more sign q (rw (m, s))

  pub writing_end : i ≤ at → out ≡ sets out₀ at (sized_text width minus k)
  unfolding text_by
  writing_end h =
      let e : i - at ≡ 0 = omega arith in
      sym (w.same ∙ rw e)

-- a digit in three columns
digit_text : (k : ℕ) → k ≤ 9 → sized_text 3 false k ≡ 32 ∷ 32 ∷ (48 + k) ∷ []
unfolding text_by
digit_text k h =
    let e : k % 10 ≡ k = omega arith in
    rw (le-ltb 9 k h, e)

pub digit_written : (out : Bytes) (at k : ℕ) → k ≤ 9 → set (set (set out at 32) (at + 1) 32) (at + 2) (48 + k) ≡ sets out at (sized_text 3 false k)
digit_written out at k h =
    let a : at + 1 ≡ suc at = omega arith in
    let b : at + 2 ≡ suc (suc at) = omega arith in
    rw (digit_text k h, a, b)

-- two digits or three
pub first_none : (k : ℕ) → k < 1 → 32 ≡ first_digit k
first_none zero h = refl
first_none (suc k) h = absurd (omega arith)

pub first_some : (k : ℕ) → 1 ≤ k → 48 + k ≡ first_digit k
first_some zero h = absurd (omega arith)
first_some (suc k) h = refl

digits_text : (k : ℕ) → 9 < k → k ≤ 999 → sized_text 3 false k ≡ first_digit (k / 100) ∷ (48 + (k / 10 - 10 * (k / 100))) ∷ (48 + (k - 10 * (k / 10))) ∷ []
unfolding text_by
digits_text k l h = by (ltb 9 (k / 10)) refl
  where
    e : k % 10 ≡ k - 10 * (k / 10)
    e = omega arith

    f : k / 10 % 10 ≡ k / 10 - 10 * (k / 100)
    f = omega arith

    by : (t : Bool) → ltb 9 (k / 10) ≡ t → sized_text 3 false k ≡ first_digit (k / 100) ∷ (48 + (k / 10 - 10 * (k / 100))) ∷ (48 + (k - 10 * (k / 10))) ∷ []
    by true q =
        let n : 9 < k / 10 = ltb-true 9 (k / 10) q in
        let g : k / 10 / 10 % 10 ≡ k / 100 = omega arith in
        rw (lt-ltb 9 k l, q, e, f, g, ← first_some (k / 100) (omega arith))
    by false q =
        let n : k / 10 ≤ 9 = ltb-false 9 (k / 10) q in
        rw (lt-ltb 9 k l, q, e, f, ← first_none (k / 100) (omega arith))

pub digits_written : (out : Bytes) (at k first : ℕ) → first ≡ first_digit (k / 100) → 9 < k → k ≤ 999
    → set (set (set out at first) (at + 1) (48 + (k / 10 - 10 * (k / 100)))) (at + 2) (48 + (k - 10 * (k / 10))) ≡ sets out at (sized_text 3 false k)
digits_written out at k first e l h =
    let a : at + 1 ≡ suc at = omega arith in
    let b : at + 2 ≡ suc (suc at) = omega arith in
    rw (digits_text k l h, e, a, b)

pub three_columns : (out out₀ : Bytes) (at width k : ℕ) → width ≡ 3 → out ≡ sets out₀ at (sized_text 3 false k) → out ≡ sets out₀ at (sized_text width false k)
three_columns out out₀ at width k w e = rw w e

pub ruleset writing_laws = (writing_start, writing_digit, writing_sign, writing_space, writing_end)
