-- What is written for a record in its ranges is well formed, and stands for that record.
use Rattle.std.specs.Prelude.{ℕ, ◌≤◌, List, [], ◌∷◌, ◌++◌}
use Rattle.text.specs.Text.{Line}
use Rattle.rules.specs.Record.{Item, Raw, Values, Items, Record, SDfile}
use Rattle.rules.specs.Write.{items_lines, record_lines, file_lines}
use Rattle.rules.specs.Canon.{GoodValues, GoodItems}
use Rattle.rules.specs.After.{parts_after, record_after}
use Rattle.rules.specs.Written.{header_written, blank_written, close_written, molecule_written, GoodRecord, GoodRecords}

-- ---- Records

values_written : (vs rest : List Line) → GoodValues vs → Values (vs ++ ([] ∷ rest)) vs rest
unfolding GoodValues
values_written [] rest g = Values.end blank_written
values_written (v ∷ vs) rest g = Values.more g.0 (values_written vs rest g.1)

pub items_written : (is : List Item) → GoodItems is → Items (items_lines is) is []
unfolding GoodItems items_lines
items_written [] g = Items.end close_written
items_written (i ∷ is) g =
    Items.more (header_written i.name g.0.name) (values_written i.values (items_lines is) g.0.values) (items_written is g.1)

pub record_written : (limit : ℕ) (x : Raw) → limit ≤ 999 → GoodRecord limit x → Record limit (record_lines x) x []
unfolding record_lines
record_written limit x small g =
    Record.record_of (parts_after (molecule_written limit x.molecule small g.molecule) (items_lines x.items)) (items_written x.items g.items)

pub file_written : (limit : ℕ) (xs : List Raw) → limit ≤ 999 → GoodRecords limit xs → SDfile limit (file_lines xs) xs
unfolding file_lines GoodRecords
file_written limit [] small g = SDfile.none
file_written limit (x ∷ xs) small g = SDfile.more (record_after (record_written limit x small g.0) (file_lines xs)) (file_written limit xs small g.1)
