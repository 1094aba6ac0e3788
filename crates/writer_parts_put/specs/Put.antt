-- What the code writes: of a line that its place takes, and of a part that is good and has room.
use Rattle.std.specs.Prelude.{ℕ, ◌+◌, ◌≤◌, ◌≡◌, length}
use Rattle.text.specs.Text.{Bytes, Line}
use Rattle.judge_file.specs.Verdict.{Verdict, accepted}
use Rattle.judge_parts.specs.Written.{text_of}
use Rattle.writer_parts.specs.Step.{taken, turn_as}
use Rattle.writer_parts.specs.NeverRefused.{Taking}
use Rattle.writer_lines.specs.Laid.{Laid}
use Rattle.writer_parts.specs.declared.Place.{Place}

-- ---- A line

-- its place takes it, and room of k bytes is enough for its text from place `at` on
pub record Fitting (p : Place) (l : Line) (at k : ℕ) : Type 0 where
  pub taking : Taking p l
  pub enough : at + length taking.text ≤ k

-- its text was laid there, and the next line stands at place q
pub record PutTo (p : Place) (l : Line) (r₀ r : Bytes) (at : ℕ) (q : Place) (next : ℕ) : Type 0 where
  pub text : Bytes
  pub turn : turn_as p l ≡ taken q text
  pub laid : Laid r₀ r at text next

-- ---- A part

-- it is good, and room of k bytes is enough for its text from place `at` on
pub record Room (v : Verdict Bytes) (at k : ℕ) : Type 0 where
  pub whole : v ≡ accepted (text_of v)
  pub enough : at + length (text_of v) ≤ k
