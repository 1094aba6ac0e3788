-- Each field of a line is judged as the demands on it say.
use Prim.Native.Nat.{ℕ, suc, ◌+◌, ◌-◌, ◌≤◌}
use native.Mathlib.Omega.{arith}
use Rattle.std.specs.Prelude.{◌≡◌, leb, length}
use mathlib.Core.List.{List, []}
use borrow.Author.Tests.{leb-true, leb-false}
use Rattle.text.specs.Text.{Line, Each}
use Rattle.text.specs.Columns.{Allowed, Within}
use Rattle.text.specs.Find.{is_bad, bad_column}
use Rattle.text.specs.Agree.{bad_none, good_byte, byte_good}
use Rattle.judge_line.specs.Got.{Got, got}
use Rattle.judge_line.specs.Field.{none_found, within}
use Rattle.judge_refusals.specs.Demand.{Demand, ◌and_then◌}
use Rattle.judge_refusals.specs.Refusals.{each, fitting}
use Rattle.judge_refusals.specs.Tells.{Tells, value, need_tells, no_more}
use Rattle.judge_refusals.specs.Fields.{first_tells}

-- ---- every column from i on

module _ {A : Type 0} {ds : List Demand} {x : Got A} (l : Line) where
  allowed_tells : (w : ℕ) → length l ≤ w → (Each Allowed l → Tells ds x) → Tells (each Allowed 4 l 1 w and_then ds) (none_found 4 (bad_column l) x)
  unfolding bad_column
  allowed_tells w short t =
      first_tells is_bad Allowed good_byte byte_good (omega arith) 4 l l 1 (suc w - 1) (omega arith) (λ k. let e : 1 + k - 1 ≡ k = omega arith in rw e) (λ h. t ((bad_none l).0 h))

  pub within_tells : (w : ℕ) → (Within w l → Tells ds x) → Tells (fitting w l and_then ds) (within w l x)
  unfolding within
  within_tells w t =
      need_tells (leb (length l) w) (leb-true (length l) w) (λ f h. omega (arith, leb-false (length l) w f)) λ h.
      let short = leb-true (length l) w h in
      allowed_tells w short (λ a. t (record { short = short; allowed = a }))

module _ {A : Type 0} (l : Line) (a : A) where
  pub within_last : (w : ℕ) → Tells (fitting w l) (within w l (got a))
  within_last w = no_more (fitting w l) (within_tells l w (λ h. value tt))
