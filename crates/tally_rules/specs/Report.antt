-- The report: a line for each supplier, the count right-aligned in six columns, a space, the name; then `missing`, then `total`.
use Rattle.std.specs.Prelude.{ℕ, List, [], ◌∷◌, ◌++◌}
use Rattle.text.specs.Text.{Bytes, LF, byte, bytes}
use Rattle.field_numbers.specs.Write.{number_text}
use Rattle.tally_rules.specs.declared.Tally.{Tally}
use Rattle.tally_rules.specs.Tally.{name_of}
use Rattle.tally_rules.specs.Book.{Book}

abbrev pub report_line : ℕ → Bytes → Bytes
report_line count name = number_text 6 count ++ (byte " " ∷ (name ++ (LF ∷ [])))

unfoldable pub supplier_lines : List Tally → Bytes
supplier_lines [] = []
supplier_lines (t ∷ ts) = report_line t.count (name_of t) ++ supplier_lines ts

unfoldable pub report_of : Book → Bytes
report_of b = supplier_lines b.tallies ++ (report_line b.missing (bytes "missing") ++ report_line b.total (bytes "total"))
