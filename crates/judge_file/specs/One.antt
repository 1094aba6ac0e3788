-- One record of an SDfile from the front of some lines: the record, how many lines it takes, and the lines after it.
use Rattle.std.specs.Prelude.{ℕ, suc, List, [], ◌∷◌}
use Rattle.text.specs.Text.{Line}
use Rattle.rules.specs.Record.{Raw}
use Rattle.judge_line.specs.Got.{got, bad}
use Rattle.judge_file.specs.Place.{Place, first, sdfile, next, done, turn_of}

pub data One : Type 0 where
  whole : Raw → ℕ → List Line → One  -- the record, its number of lines, the lines after it
  refused : ℕ → ℕ → ℕ → One  -- number, line, column
  short : ℕ → One  -- the lines end before the record does: the line after them

-- from a place of the record, at line i
unfoldable pub one_from : ℕ → Place → ℕ → List Line → One
one_from limit p i [] = short i
one_from limit p i (l ∷ ls) = elim (turn_of sdfile limit p l) [
  | got t ↦ elim t [ next q ↦ one_from limit q (suc i) ls | done x ↦ whole x i ls ]
  | bad e column ↦ refused e i column
]

unfoldable pub one_record : ℕ → List Line → One
one_record limit ls = one_from limit first 1 ls
