-- The part from a line on, with the text of the lines before it: what is found from here on is what is found of the whole part.
use Rattle.std.specs.Prelude.{ℕ, ◌+◌, ◌-◌, ◌≤◌, ◌<◌, ◌≡◌, refl, [], ◌∷◌, ◌++◌, length, take, drop}
use Rattle.std.proofs.Common.{arith, add-one, ◌∙◌, length-drop, drop_of_length-le}
use Rattle.std.proofs.Math.Path.{ap}
use Rattle.text.specs.Text.{Bytes}
use Rattle.text.specs.Find.{line_at}
use Rattle.text.specs.Cut.{split, cut, line_cut, line_rest}
use Rattle.text.specs.declared.LineAt.{LineAt}
use Rattle.judge_line.specs.Got.{bad, then}
use Rattle.judge_file.specs.Verdict.{Verdict, refused}
use Rattle.judge_parts.specs.Part.{finish}
use Rattle.judge_parts.specs.Runs.{from_cut, from_start, from_next, from_stop, from_end}
use Rattle.writer_parts.specs.Step.{taken, turn_as, standing_turn, standing_end, ends_at, written_from}
use Rattle.writer_parts.specs.declared.Place.{Place}

-- from a place, with the text before it, at line i and position `at`
unfoldable pub from_here : Place → Bytes → ℕ → Bytes → ℕ → Verdict Bytes
from_here p out i s at = from_cut standing_turn standing_end (record { place = p; out = out }) i (cut (drop at s))

pub here_start : (p : Place) (s : Bytes) → written_from p s ≡ from_here p [] 1 s 0
unfolding written_from from_here
here_start p s = from_start standing_turn standing_end (record { place = p; out = [] }) s

module _ (p : Place) (out : Bytes) (i : ℕ) (s : Bytes) (at e n : ℕ) (line : line_at s at ≡ LineAt.Line e n) where
  pub here_next : (q : Place) (bs : Bytes) → turn_as p (take (e - at) (drop at s)) ≡ taken q bs → from_here p out i s at ≡ from_here q (out ++ bs) (i + 1) s n
  unfolding from_here standing_turn then
  here_next q bs h =
      ap (from_cut standing_turn standing_end (record { place = p; out = out }) i) (line_cut s at e n line)
      ∙ from_next standing_turn standing_end (record { place = p; out = out }) (record { place = q; out = out ++ bs }) i (take (e - at) (drop at s)) (cut (drop n s)) (rw h)
      ∙ rw (add-one i)

  pub here_stop : (a column : ℕ) → turn_as p (take (e - at) (drop at s)) ≡ bad a column → from_here p out i s at ≡ refused a i column
  unfolding from_here standing_turn then
  here_stop a column h =
      ap (from_cut standing_turn standing_end (record { place = p; out = out }) i) (line_cut s at e n line)
      ∙ from_stop standing_turn standing_end (record { place = p; out = out }) i (take (e - at) (drop at s)) (cut (drop n s)) a column (rw h)

module _ (p : Place) (out : Bytes) (i : ℕ) (s : Bytes) (at : ℕ) where
  rest_first : line_at s at ≡ LineAt.Unfinished → from_here p out i s at ≡ finish standing_end (record { place = p; out = out }) (drop at s) i
  unfolding from_here
  rest_first h =
      ap (from_cut standing_turn standing_end (record { place = p; out = out }) i) (line_rest s at h)
      ∙ from_end standing_turn standing_end (record { place = p; out = out }) i (drop at s)

  pub here_cut : at < length s → line_at s at ≡ LineAt.Unfinished → from_here p out i s at ≡ refused 19 i 1
  here_cut some h = rest_first h ∙ go (drop at s) (omega (arith, length-drop at s))
    where
      go : (t : Bytes) → 0 < length t → finish standing_end (record { place = p; out = out }) t i ≡ refused 19 i 1
      go [] k = absurd (omega arith)
      go (b ∷ t) k = refl

  pub here_end : length s ≤ at → from_here p out i s at ≡ ends_at p out i
  unfolding from_here cut split
  here_end h = rw (drop_of_length-le s h) (from_end standing_turn standing_end (record { place = p; out = out }) i [])
