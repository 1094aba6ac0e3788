-- What the answers of the code stand for: what the judges find, a refusal with its number and column.
use Rattle.std.specs.Prelude.{Result, Ok, Err, ℕ, ◌-◌, ◌≤◌, length, take, drop}
use Rattle.text.specs.Text.{Line}
use Rattle.judge_line.specs.Got.{Got, got, bad}
use Rattle.judge_line.specs.Judge.{HeaderRead, named, none, ItemOrEnd, title, close, ValueOrBlank, value, blank}
use Rattle.judge_line.specs.declared.Refusal.{Refusal}
use Rattle.line_text.specs.declared.ItemLine.{ItemLine}
use Rattle.line_text.specs.declared.ValueKind.{ValueKind}
use Rattle.line_text.specs.declared.NameRead.{NameRead}

abbrev pub header_got : Line → Result (Unit {0}) Refusal → Got Line
header_got l (Ok tt) = got l
header_got l (Err r) = bad r.no r.column

-- a name by its positions in the line
abbrev pub name_got : Line → NameRead → HeaderRead
name_got l (NameRead.Named from to) = named (take (to - from) (drop from l))
name_got l NameRead.Unnamed = none

abbrev pub item_got : Line → Result ItemLine Refusal → Got ItemOrEnd
item_got l (Ok (ItemLine.Title from to)) = got (title (take (to - from) (drop from l)))
item_got l (Ok ItemLine.Close) = got close
item_got l (Err r) = bad r.no r.column

abbrev pub value_got : Result ValueKind Refusal → Got ValueOrBlank
value_got (Ok ValueKind.Value) = got value
value_got (Ok ValueKind.Blank) = got blank
value_got (Err r) = bad r.no r.column

-- the name's positions lie in the line
unfoldable pub name_in : Line → NameRead → Type 0
name_in l (NameRead.Named from to) = (from ≤ to) × (to ≤ length l)
name_in l NameRead.Unnamed = Unit {0}

unfoldable pub item_in : Line → Result ItemLine Refusal → Type 0
item_in l (Ok (ItemLine.Title from to)) = (from ≤ to) × (to ≤ length l)
item_in l (Ok ItemLine.Close) = Unit {0}
item_in l (Err r) = Unit {0}
