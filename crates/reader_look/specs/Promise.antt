-- The promise of a look: it is the one that `Look` describes; and of a text that begins with a good record it says what a fetch finds there, and how many
-- bytes and lines the record takes.
use Rattle.std.specs.Prelude.{ℕ, ◌≡◌}
use Rattle.text.specs.Text.{Bytes}
use Rattle.rules.specs.Record.{Raw}
use Rattle.judge_file.specs.Place.{sdfile}
use Rattle.judge_file.specs.WalkText.{after_lines}
use Rattle.reader_walk.specs.Outcome.{whole, outcome_of}
use Rattle.reader_item.specs.Find.{Said, item, refused, found_of}
use Rattle.reader_look.specs.declared.Looked.{Looked}
use Rattle.reader_look.specs.Look.{LookOf}

-- what a fetch finds in a good record is an item, or that there is none
abbrev pub looked_as : Said → ℕ → ℕ → Looked
looked_as (item from to) n k = Looked.Item from to n k
looked_as (refused e i column) n k = Looked.Missing n k

pub record Promised (s name : Bytes) (r : Looked) : Type 0 where
  pub is : LookOf s name r
  pub good : (x : Raw) (k : ℕ) → outcome_of sdfile s ≡ whole x k → r ≡ looked_as (found_of s name) (after_lines s 0 k) k
