-- An SDfile's text walked record by record: each record starts where the lines of the one before it end.
use Rattle.std.specs.Prelude.{ℕ, zero, suc, ◌+◌, ◌≤◌, ◌≡◌, refl, drop}
use Rattle.std.proofs.Math.Path.{ap}
use Rattle.std.proofs.Common.{arith}
use mathlib.Core.List.{List, []}
use Rattle.std.proofs.Math.ListN.{length}
use Rattle.text.specs.Text.{Bytes, Line}
use Rattle.text.specs.Find.{line_at}
use Rattle.text.specs.Cut.{Cut, split, cut, line_within, line_cut, line_rest}
use Rattle.text.specs.declared.LineAt.{LineAt}
use Rattle.rules.specs.Record.{Raw}
use Rattle.judge_file.specs.Verdict.{Verdict, accepted}
use Rattle.judge_file.specs.Walk.{file_from, walk_end}

-- ---- Positions

-- where the line after so many lines starts, from position `at` on; there are no lines past the last LF
unfoldable pub after_lines : Bytes → ℕ → ℕ → ℕ
after_lines s at zero = at
after_lines s at (suc k) = elim (line_at s at) [ LineAt.Line e n ↦ after_lines s n k | LineAt.Unfinished ↦ at ]

pub after_none : (s : Bytes) (at : ℕ) → after_lines s at 0 ≡ at
unfolding after_lines
after_none s at = refl

pub after_next : (s : Bytes) (at e n k : ℕ) → line_at s at ≡ LineAt.Line e n → after_lines s at (suc k) ≡ after_lines s n k
unfolding after_lines
after_next s at e n k h = rw (h, after_lines)

pub after_last : (s : Bytes) (at k : ℕ) → line_at s at ≡ LineAt.Unfinished → after_lines s at (suc k) ≡ at
unfolding after_lines
after_last s at k h = rw (h, after_lines)

-- each line takes a byte or more
pub after_within : (s : Bytes) (at k : ℕ) → at ≤ length s → k ≤ length (cut (drop at s)).lines → (at + k ≤ after_lines s at k) × (after_lines s at k ≤ length s)
unfolding after_lines
after_within s at zero h some = (omega arith, h)
after_within s at (suc k) h some = go (λ n h some. after_within s n k h some) (line_at s at) refl
  where
    go : ((n : ℕ) → n ≤ length s → k ≤ length (cut (drop n s)).lines → (n + k ≤ after_lines s n k) × (after_lines s n k ≤ length s)) → (l : LineAt) →
        line_at s at ≡ l →
        (at + suc k ≤ after_lines s at (suc k)) × (after_lines s at (suc k) ≤ length s)
    go r (LineAt.Line e n) q =
        let w = line_within s at e n q in
        let fewer : k ≤ length (cut (drop n s)).lines = omega (arith, ap (λ (c : Cut). length c.lines) (line_cut s at e n q)) in
        let m = r n w.2 fewer in
        let e' = after_next s at e n k q in
        (omega (arith, m.0, w.0, w.1), omega (arith, m.1))
    go r LineAt.Unfinished q = absurd (omega (arith, ap (λ (c : Cut). length c.lines) (line_rest s at q)))

-- the lines from there on
pub after_cut : (s : Bytes) (at k : ℕ) → k ≤ length (cut (drop at s)).lines →
    cut (drop (after_lines s at k) s) ≡ record { lines = drop k (cut (drop at s)).lines; rest = (cut (drop at s)).rest }
unfolding after_lines
after_cut s at zero some = refl
after_cut s at (suc k) some = go (λ n some. after_cut s n k some) (line_at s at) refl
  where
    go : ((n : ℕ) → k ≤ length (cut (drop n s)).lines → cut (drop (after_lines s n k) s) ≡ record { lines = drop k (cut (drop n s)).lines; rest = (cut (drop n s)).rest }) →
        (l : LineAt) →
        line_at s at ≡ l → cut (drop (after_lines s at (suc k)) s) ≡ record { lines = drop (suc k) (cut (drop at s)).lines; rest = (cut (drop at s)).rest }
    go r (LineAt.Line e n) q =
        let c = line_cut s at e n q in
        let fewer : k ≤ length (cut (drop n s)).lines = omega (arith, ap (λ (c : Cut). length c.lines) c) in
        rw (after_next s at e n k q, c) (r n fewer)
    go r LineAt.Unfinished q = absurd (omega (arith, ap (λ (c : Cut). length c.lines) (line_rest s at q)))

-- ---- The walk

-- the verdict on the text from here, with records finished before, and line i first
unfoldable pub file_text : ℕ → List Raw → ℕ → Bytes → Verdict (List Raw)
file_text limit xs i t = file_from limit xs i (cut t).lines (cut t).rest

pub text_end : (limit : ℕ) (xs : List Raw) (i : ℕ) → file_text limit xs i [] ≡ accepted xs
unfolding file_text cut split
text_end limit xs i = walk_end limit xs i
