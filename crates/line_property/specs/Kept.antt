-- What the table holds after a good line.
use Rattle.std.specs.Prelude.{Result, ℕ, ◌≡◌, List, length}
use Rattle.text.specs.Text.{Line}
use Rattle.rules.specs.Forms.{Property}
use Rattle.judge_line.specs.Got.{Got, got}
use Rattle.judge_line.specs.Judge.{PropertyOrEnd, property_of, property, last}
use Rattle.line_property.specs.Listed.{enter, seen_of}
use Rattle.line_property.specs.Answer.{property_read}
use Rattle.line_property.specs.declared.PropertyLine.{PropertyLine}
use Rattle.judge_line.specs.declared.Refusal.{Refusal}

-- t before the line, t' after it; after a refusal it may hold anything, but is as long as before
pub record Kept (n : ℕ) (t : List ℕ) (l : Line) (t' : List ℕ) : Type 0 where
  pub entered : (p : Property) → property_of n (seen_of n t) l ≡ got (property p) → t' ≡ enter p.kind t p.entries
  pub same : property_of n (seen_of n t) l ≡ got last → t' ≡ t
  pub size : length t' ≡ length t

-- the answer and the table where a part of the line is judged to be g
pub record KeptBy (g : Got PropertyOrEnd) (t : List ℕ) (r : Result PropertyLine Refusal) (t' : List ℕ) : Type 0 where
  pub read : r ≡ property_read g
  pub entered : (p : Property) → g ≡ got (property p) → t' ≡ enter p.kind t p.entries
  pub same : g ≡ got last → t' ≡ t
  pub size : length t' ≡ length t
