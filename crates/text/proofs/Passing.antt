-- Laws on a search that goes on: one for each turn and each end of a loop.
use Rattle.std.specs.Prelude.{Option, Some, None}
use Prim.Native.Nat.{ℕ, zero, suc, ◌+◌, ◌-◌, ◌≤◌, ◌<◌}
use native.Mathlib.Nat.{add-zero}
use native.Mathlib.Omega.{arith}
use mathlib.Core.Path.{◌≡◌, refl, sym, ap, ◌∙◌}
use mathlib.Core.Bool.{Bool, true, false}
use lib.ListN.{length, get_or, drop, length-drop}
use borrow.Author.Tests.{eq-eqb, ne_eqb}
use Rattle.text.specs.Text.{Bytes, Line, LF, byte}
use Rattle.text.specs.Find.{first_from, is_lf, is_bad, is_ink, bad_column, ink_column, line_to, line_at, is_blank}
use Rattle.text.specs.First.{first_hit, first_miss, first_none, first_within, nothing_later}
use Rattle.text.specs.Agree.{ink_none, blank_is}
use Rattle.text.specs.Search.{Passed}
use Rattle.text.specs.declared.LineAt.{LineAt}

module _ (p : ℕ → Bool) (s : Bytes) where
  pub passed_start : (i : ℕ) → Passed p s i i
  unfolding Passed
  passed_start i o = refl

  pub passed_join : (i j k : ℕ) → Passed p s i j → Passed p s j k → Passed p s i k
  unfolding Passed
  passed_join i j k a b o = a o ∙ b o

  pub passed_next : (i j : ℕ) → Passed p s i j → j < length s → p (get_or s j 0) ≡ false → Passed p s i (j + 1)
  unfolding Passed
  passed_next i j a h t o =
      let e : j + o + 1 ≡ j + 1 + o = omega arith in
      a o ∙ (first_miss p s j (j + o) h t ∙ ap (λ (k : ℕ). first_from p k (drop (j + 1) s)) e)

  pub passed_hit : (i j o : ℕ) → Passed p s i j → j < length s → p (get_or s j 0) ≡ true → Some (j + o) ≡ first_from p (i + o) (drop i s)
  unfolding Passed
  passed_hit i j o a h t = sym (a o ∙ first_hit p s j (j + o) h t)

  pub passed_none : (i j o : ℕ) → Passed p s i j → length s ≤ j → None ≡ first_from p (i + o) (drop i s)
  unfolding Passed
  passed_none i j o a h = sym (a o ∙ first_none p s j (j + o) h)

  -- a block whose bytes all fail the test
  pub passed_block : (i n : ℕ) → i + n ≤ length s → ((k : ℕ) → k < n → p (get_or s (i + k) 0) ≡ false) → Passed p s i (i + n)
  passed_block i zero h f = rw (add-zero i) (passed_start i)
  passed_block i (suc n) h f =
      let e : i + suc n ≡ i + n + 1 = omega arith in
      rw e (passed_next i (i + n) (passed_block i n (omega arith) (λ k g. f k (omega arith))) (omega arith) (f n (omega arith)))

  -- the last sixteen bytes, where fewer are left from i on
  pub passed_last : (i : ℕ) → Passed p s (length s - 16) (length s - 16 + 16) → 16 ≤ length s → length s ≤ i + 16 → Passed p s i (length s)
  unfolding Passed
  passed_last i a h g o =
      let e : length s ≤ length s - 16 + 16 = omega arith in
      let l : length s - 16 ≤ i = omega arith in
      nothing_later p s (length s - 16) i (length s - 16 + o) (i + o) (a o ∙ first_none p s (length s - 16 + 16) (length s - 16 + 16 + o) e) l
      ∙ sym (first_none p s (length s) (length s + o) (omega arith))

-- the first LF: positions count from 0
module _ (s : Bytes) (at i : ℕ) where
  pub lf_hit : Passed is_lf s at i → i < length s → get_or s i 0 ≡ LF → Some i ≡ first_from is_lf at (drop at s)
  lf_hit a h t = rw (add-zero i, add-zero at) at (passed_hit is_lf s at i 0 a h (eq-eqb _ _ t))

  pub lf_over : Passed is_lf s at i → length s ≤ i → None ≡ first_from is_lf at (drop at s)
  lf_over a h = rw add-zero at (passed_none is_lf s at i 0 a h)

-- the line, from where its LF was found
module _ (s : Bytes) (at : ℕ) (v : Option ℕ) where
  pub lf_below : (k : ℕ) → v ≡ first_from is_lf at (drop at s) → v ≡ Some k → k < length s
  lf_below k e f =
      let w = first_within is_lf at k (drop at s) (sym e ∙ f) in
      omega (arith, length-drop at s)

  pub line_hit : (k : ℕ) (r : LineAt) → v ≡ first_from is_lf at (drop at s) → v ≡ Some k → r ≡ line_to s at (Some k) → r ≡ line_at s at
  unfolding line_at
  line_hit k r e f h = h ∙ ap (line_to s at) (sym f ∙ e)

  pub line_none : v ≡ first_from is_lf at (drop at s) → v ≡ None → LineAt.Unfinished ≡ line_at s at
  unfolding line_at line_to
  line_none e f = ap (line_to s at) (sym f ∙ e)

-- the first byte that is not allowed: columns count from 1; t is what the code was told of the byte
module _ (l : Line) (k : ℕ) where
  pub bad_next : (t : Bool) → Passed is_bad l 0 k → k < length l → t ≡ is_bad (get_or l k 0) → t ≡ false → Passed is_bad l 0 (k + 1)
  bad_next t a h e f = passed_next is_bad l 0 k a h (sym e ∙ f)

  pub bad_hit : (t : Bool) → Passed is_bad l 0 k → k < length l → t ≡ is_bad (get_or l k 0) → t ≡ true → Some (k + 1) ≡ bad_column l
  unfolding bad_column
  bad_hit t a h e f = passed_hit is_bad l 0 k 1 a h (sym e ∙ f)

  pub bad_over : Passed is_bad l 0 k → length l ≤ k → None ≡ bad_column l
  unfolding bad_column
  bad_over a h = passed_none is_bad l 0 k 1 a h

-- the first column that is no space
module _ (l : Line) (i k : ℕ) (one : 1 ≤ i) where
  from : i - 1 + 1 ≡ i
  from = omega arith

  pub ink_hit : Passed is_ink l (i - 1) k → k < length l → (get_or l k 0 ≡ byte " " → ⊥) → Some (k + 1) ≡ ink_column l i
  unfolding ink_column
  ink_hit a h t =
      let e : is_ink (get_or l k 0) ≡ true = rw (ne_eqb _ _ t) in
      rw from at (passed_hit is_ink l (i - 1) k 1 a h e)

  pub ink_next : Passed is_ink l (i - 1) k → k < length l → get_or l k 0 ≡ byte " " → Passed is_ink l (i - 1) (k + 1)
  ink_next a h t =
      let e : is_ink (get_or l k 0) ≡ false = rw (eq-eqb _ _ t) in
      passed_next is_ink l (i - 1) k a h e

  pub ink_over : Passed is_ink l (i - 1) k → length l ≤ k → None ≡ ink_column l i
  unfolding ink_column
  ink_over a h = rw from at (passed_none is_ink l (i - 1) k 1 a h)

-- a blank line has no ink
pub blank_none : (l : Line) (v : Option ℕ) → v ≡ ink_column l 1 → v ≡ None → true ≡ is_blank l
blank_none l v e n = sym ((blank_is l).1 ((ink_none l 1).0 (sym e ∙ n)))

blank_by : (l : Line) (k : ℕ) (t : Bool) → is_blank l ≡ t → ink_column l 1 ≡ Some k → false ≡ t
blank_by l k true b e =
    let n : ink_column l 1 ≡ None = (ink_none l 1).1 ((blank_is l).0 b) in
    absurd (let z : ◌≡◌ {A = ℕ} 0 1 = cc in omega arith)
blank_by l k false b e = refl

pub blank_ink : (l : Line) (v : Option ℕ) (k : ℕ) → v ≡ ink_column l 1 → v ≡ Some k → false ≡ is_blank l
blank_ink l v k e n = blank_by l k (is_blank l) refl (sym e ∙ n)

pub ruleset blank_laws = (blank_none, blank_ink)

pub ruleset lf_laws = (passed_start, passed_next, lf_hit, lf_over, eq-eqb, ne_eqb)

pub ruleset bad_laws = (bad_next, bad_hit, bad_over)

pub ruleset ink_laws = (passed_start, ink_next, ink_hit, ink_over)

pub ruleset line_laws = (lf_below, line_hit, line_none)
