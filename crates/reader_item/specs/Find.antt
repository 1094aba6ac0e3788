-- What a fetch finds: the value lines of the first item of a name, by their positions in the text, or a refusal.
use Rattle.std.specs.Prelude.{ℕ, zero, suc, ◌+◌, ◌-◌, ◌≡◌, List, [], ◌∷◌, Bool, true, false, cond, length, take, drop}
use Rattle.text.specs.Text.{Bytes, Line}
use Rattle.text.specs.Find.{line_at, same_bytes}
use Rattle.text.specs.Cut.{cut}
use Rattle.text.specs.declared.LineAt.{LineAt}
use Rattle.rules.specs.Record.{Item, Raw, Values as ValuesOf}
use Rattle.judge_line.specs.Got.{Got, got, bad}
use Rattle.judge_line.specs.Judge.{ItemOrEnd, title, close, ValueOrBlank, value, blank, value_of}
use Rattle.judge_file.specs.Place.{sdfile}
use Rattle.judge_file.specs.WalkText.{after_lines}
use Rattle.reader_walk.specs.Outcome.{Outcome, whole, outcome_of}
use Rattle.reader_walk.specs.Stands.{molecule_lines}
use Rattle.reader_item.specs.declared.Found.{Found}
use Rattle.reader_item.specs.declared.Part.{Part}
use Rattle.reader_item.specs.declared.Title.{Title}
use Rattle.reader_item.specs.declared.Values.{Values}

-- ---- Value lines by their positions

-- where the line that starts at `at` ends
unfoldable pub line_end : Bytes → ℕ → ℕ
line_end s at = elim (line_at s at) [ LineAt.Line e n ↦ e | LineAt.Unfinished ↦ at ]

-- k value lines, of which the first starts at `at`: where they start, and where the last one ends
abbrev pub from_of : ℕ → ℕ → ℕ
from_of at zero = 0
from_of at (suc k) = at

abbrev pub to_of : Bytes → ℕ → ℕ → ℕ
to_of s at zero = 0
to_of s at (suc k) = line_end s (after_lines s at k)

-- ---- The answer

pub data Said : Type 0 where
  item : ℕ → ℕ → Said  -- from, to
  refused : ℕ → ℕ → ℕ → Said  -- number, line, column

abbrev pub numbers_of : Found → Said
numbers_of (Found.Item from to) = item from to
numbers_of (Found.Refused e i column) = refused e i column

-- where the values of the first item of a name stand: how many lines of the record come before them, and how many they are
pub data Spot : Type 0 where
  after : ℕ → ℕ → Spot
  nowhere : Spot

-- so many lines come before these items
unfoldable pub spot_of : Bytes → ℕ → List Item → Spot
spot_of name j [] = nowhere
spot_of name j (i ∷ is) = cond (same_bytes i.name name) (after (suc j) (length i.values)) (spot_of name (suc j + suc (length i.values)) is)

abbrev pub said_by : Bytes → Spot → Said
said_by s (after j k) = item (from_of (after_lines s 0 j) k) (to_of s (after_lines s 0 j) k)
said_by s nowhere = refused 22 0 0

abbrev pub found_by : Bytes → Bytes → Outcome → Said
found_by s name (whole x k) = said_by s (spot_of name (molecule_lines x.molecule) x.items)
found_by s name (Outcome.refused e i column) = refused e i column

-- the record that the text begins with is judged first
unfoldable pub found_of : Bytes → Bytes → Said
found_of s name = found_by s name (outcome_of sdfile s)

-- the stretch that is handed back: the empty one at the start where the fetch is refused
abbrev pub stretch_of : Said → Part
stretch_of (item from to) = record { from = from; to = to }
stretch_of (refused e i column) = record { from = 0; to = 0 }

-- that part of the text
unfoldable pub part_of : Said → Bytes → Bytes
part_of r s = take ((stretch_of r).to - (stretch_of r).from) (drop (stretch_of r).from s)

-- ---- What the functions inside answer

unfoldable pub titled_as : Bytes → Bytes → Title
titled_as found name = cond (same_bytes found name) Title.Named Title.Other

-- a good record has no other line there
unfoldable pub title_by : Bytes → Got ItemOrEnd → Title
title_by name (got (title found)) = titled_as found name
title_by name (got close) = Title.Close
title_by name (bad e column) = Title.Close

abbrev pub is_value : Got ValueOrBlank → Bool
is_value (got value) = true
is_value (got blank) = false
is_value (bad e column) = false

-- how many value lines come before the first line that is none
unfoldable pub values_ahead : List Line → ℕ
values_ahead [] = 0
values_ahead (l ∷ ls) = cond (is_value (value_of l)) (suc (values_ahead ls)) 0

abbrev pub values_by : Bytes → ℕ → ℕ → Values
values_by s at k = record { from = from_of at k; to = to_of s at k; next = after_lines s at (suc k) }

-- the value lines that start at `at`, and the position after the line that ends them
unfoldable pub values_at : Bytes → ℕ → Values
values_at s at = values_by s at (values_ahead (cut (drop at s)).lines)

-- the text begins with a good record, and its items start here
pub record ItemsStart (s : Bytes) (at : ℕ) : Type 0 where
  pub x : Raw
  pub k : ℕ
  pub is : outcome_of sdfile s ≡ whole x k
  pub start : at ≡ after_lines s 0 (molecule_lines x.molecule)

-- value lines of an item start here, and end at their blank line
pub record ValuesFrom (s : Bytes) (at : ℕ) : Type 0 where
  pub vs : List Line
  pub rest : List Line
  pub is : ValuesOf (cut (drop at s)).lines vs rest
