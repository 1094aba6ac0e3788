-- Laws on the bytes that a coordinate is written as: its parts laid one after the other, and its sign.
use Prim.Native.Nat.{ℕ, suc, ◌+◌, ◌-◌, ◌*◌, ◌/◌, ◌%◌, ◌≤◌}
use native.Mathlib.Numerals.{add-one}
use native.Mathlib.Omega.{arith}
use mathlib.Core.Path.{◌≡◌, sym, ap, ◌∙◌, subst}
use mathlib.Core.List.{[], ◌∷◌}
use mathlib.Core.Bool.{Bool, true, false}
use lib.Dec.{ltb}
use lib.ListN.{set}
use lib.Seq.{sets}
use lib.IntN.{ℤ, pos, negsuc, nat_abs, ◌-ℤ◌}
use lib.Signed.{lt_z}
use borrow.Author.Tests.{ltb-true, le-ltb}
use mir.Syntax.{w32}
use mir.Val.{SFits, to_z, of_z}
use mir.Facts.{to_z-of_z, to_z_pos}
use Rattle.text.specs.Text.{Bytes}
use Rattle.text.specs.Laws.{sets_append}
use Rattle.field_numbers.specs.Write.{text_by, sized_text}
use Rattle.field_numbers.specs.Written.{text_length}
use Rattle.field_numbers.specs.Signs.{from_minus_one, less_fits, less_sign, less_cast, less_plus, same_sign, same_cast}
use Rattle.field_coordinates.specs.Write.{last_digit, sign_column, after_point, point_text, coordinate_text}

-- two digits as one number, the first below the second
abbrev pair : ℕ → ℕ
pair k = 12336 + 256 * k - 2559 * (k / 10)

pair_low : (k : ℕ) → k ≤ 99 → pair k % 256 ≡ 48 + k / 10
pair_low k h = omega arith

pair_high : (k : ℕ) → k ≤ 99 → pair k / 256 ≡ 48 + k % 10
pair_high k h = omega arith

-- stores of one byte each, from the left
pub after_stored : (l : Bytes) (at k : ℕ) →
    set (set (set (set (set l at 46) (at + 1) (pair (k % 10000 / 100) % 256)) (at + 2) (pair (k % 10000 / 100) / 256)) (at + 3) (pair (k % 10000 % 100) % 256)) (at + 4) (pair (k % 10000 % 100) / 256) ≡
    sets l at (after_point k)
after_stored l at k =
    let p : at + 1 ≡ suc at = omega arith in
    let q : at + 2 ≡ suc (suc at) = omega arith in
    let r : at + 3 ≡ suc (suc (suc at)) = omega arith in
    let s : at + 4 ≡ suc (suc (suc (suc at))) = omega arith in
    let a : pair (k % 10000 / 100) % 256 ≡ last_digit (k / 1000) = pair_low (k % 10000 / 100) (omega arith) ∙ omega arith in
    let b : pair (k % 10000 / 100) / 256 ≡ last_digit (k / 100) = pair_high (k % 10000 / 100) (omega arith) ∙ omega arith in
    let c : pair (k % 10000 % 100) % 256 ≡ last_digit (k / 10) = pair_low (k % 10000 % 100) (omega arith) ∙ omega arith in
    let d : pair (k % 10000 % 100) / 256 ≡ last_digit k = pair_high (k % 10000 % 100) (omega arith) ∙ omega arith in
    rw (a, b, c, d, p, q, r, s)

-- the column before the digits, and one digit
pub sign_is : (minus : Bool) → minus ≡ true → 45 ≡ sign_column minus
sign_is minus h = rw h

pub sign_not : (minus : Bool) → minus ≡ false → 32 ≡ sign_column minus
sign_not minus h = rw h

digit_text : (minus : Bool) (k : ℕ) → k ≤ 9 → sized_text 5 minus k ≡ 32 ∷ 32 ∷ 32 ∷ sign_column minus ∷ (48 + k) ∷ []
unfolding text_by
digit_text true k h = let e : k % 10 ≡ k = omega arith in rw (le-ltb 9 k h, e)
digit_text false k h = let e : k % 10 ≡ k = omega arith in rw (le-ltb 9 k h, e)

pub digit_stored : (l : Bytes) (at k s : ℕ) (minus : Bool) → s ≡ sign_column minus → k ≤ 9 →
    set (set (set (set (set l at 32) (at + 1) 32) (at + 2) 32) (at + 3) s) (at + 4) (48 + k) ≡ sets l at (sized_text 5 minus k)
digit_stored l at k s minus e h =
    let p : at + 1 ≡ suc at = omega arith in
    let q : at + 2 ≡ suc (suc at) = omega arith in
    let r : at + 3 ≡ suc (suc (suc at)) = omega arith in
    let t : at + 4 ≡ suc (suc (suc (suc at))) = omega arith in
    rw (digit_text minus k h, e, p, q, r, t)

-- the digits before the point, and then the rest
pub both_laid : (l m n : Bytes) (at k : ℕ) (minus : Bool) →
    m ≡ sets l at (sized_text 5 minus (k / 10000)) → n ≡ sets m (at + 5) (after_point k) → n ≡ sets l at (point_text minus k)
unfolding point_text
both_laid l m n at k minus p q =
    let e = text_length 5 true minus (k / 10000) in
    q ∙ rw p (sym (sets_append (sized_text 5 minus (k / 10000)) (after_point k) l at ∙ rw e))

-- a signed number as the machine holds it, and its text by its sign
abbrev pub held : ℤ → ℤ
held z = to_z w32 (of_z w32 z)

pub minus_laid : (v : ℤ) (l n : Bytes) (at : ℕ) → SFits w32 v → lt_z (held v) (pos 0) ≡ true →
    n ≡ sets l at (point_text true (nat_abs (held (negsuc 0 -ℤ held v)) + 1)) → n ≡ sets l at (coordinate_text v)
minus_laid (pos k) l n at f t e =
    let low : ltb k 0 ≡ true = subst (λ (z : ℤ). lt_z z (pos 0) ≡ true) (to_z-of_z f) t in
    absurd (omega (arith, ltb-true k 0 low))
minus_laid (negsuc k) l n at f t e =
    let less : held (negsuc 0 -ℤ held (negsuc k)) ≡ pos k =
    ap (λ (z : ℤ). held (negsuc 0 -ℤ z)) (to_z-of_z f) ∙ ap held (from_minus_one k) ∙ to_z_pos w32 {n = k} f.sfits in
    e ∙ ap (λ (j : ℕ). sets l at (point_text true j)) (ap (λ (z : ℤ). nat_abs z + 1) less ∙ add-one k)

pub plain_laid : (v : ℤ) (l n : Bytes) (at : ℕ) → SFits w32 v → lt_z (held v) (pos 0) ≡ false →
    n ≡ sets l at (point_text false (nat_abs (held v))) → n ≡ sets l at (coordinate_text v)
plain_laid (pos k) l n at f t e = e ∙ ap (λ (z : ℤ). sets l at (point_text false (nat_abs z))) (to_z-of_z f)
plain_laid (negsuc k) l n at f t e =
    let high : true ≡ false = subst (λ (z : ℤ). lt_z z (pos 0) ≡ false) (to_z-of_z f) t in
    let z : ◌≡◌ {A = ℕ} 0 1 = cc in
    absurd (omega arith)

pub ruleset sign_laws = (less_fits, less_sign, less_cast, less_plus, same_sign, same_cast, minus_laid, plain_laid)
