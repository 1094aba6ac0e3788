-- The first line of the stretch that a fetch finds.
use Rattle.std.specs.Prelude.{ℕ, cond, eqb}
use Rattle.text.specs.Text.{Bytes}
use Rattle.reader_item.specs.Find.{Said, item, refused, found_of, line_end}
use Rattle.reader_first_line.specs.declared.FirstLine.{FirstLine}

unfoldable pub line_from : Bytes → ℕ → ℕ → FirstLine
line_from s from to = cond (eqb to 0) FirstLine.Empty (FirstLine.Line from (line_end s from))

abbrev pub first_by : Bytes → Said → FirstLine
first_by s (item from to) = line_from s from to
first_by s (refused e i column) = FirstLine.Refused e i column

unfoldable pub first_of : Bytes → Bytes → FirstLine
first_of s name = first_by s (found_of s name)
