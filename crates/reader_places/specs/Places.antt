-- The places of a record's lines, and what is asked and answered of a place alone.
use Rattle.std.specs.Prelude.{Result, Ok, Err, ℕ, Bool, true, false, cond, eqb}
use Rattle.text.specs.Text.{Line}
use Rattle.judge_line.specs.Got.{Got, got, bad}
use Rattle.reader_places.specs.declared.Place.{Place}
use Rattle.reader_places.specs.declared.Place.TheVariants as P
use Rattle.reader_places.specs.declared.Finish.{Finish}
use Rattle.judge_line.specs.declared.Refusal.{Refusal}

-- the longest line of a place
abbrev pub longest_in : Place → ℕ
longest_in (P.Header owed) = 80
longest_in P.Counts = 80
longest_in (P.Atoms owed) = 80
longest_in (P.Bonds owed) = 80
longest_in P.Properties = 80
longest_in P.Over = 80
longest_in P.Items = 80
longest_in P.Values = 200

-- what the code says of a line by its length and its bytes
abbrev pub line_got : Line → Result (Unit {0}) Refusal → Got Line
line_got l (Ok tt) = got l
line_got l (Err r) = bad r.no r.column

-- whether the input may end at a place of a record; an SDfile's ends with its `$$$$` line
abbrev pub finished_at : Place → Finish
finished_at (P.Header owed) = Finish.Owes
finished_at P.Counts = Finish.Owes
finished_at (P.Atoms owed) = Finish.Owes
finished_at (P.Bonds owed) = Finish.Owes
finished_at P.Properties = Finish.Owes
finished_at P.Over = Finish.MayEnd
finished_at P.Items = Finish.Owes
finished_at P.Values = Finish.Owes

-- so many bond lines owed, or none
unfoldable pub bonds_owed : ℕ → Place
bonds_owed k = cond (eqb k 0) P.Properties (P.Bonds k)

-- so many atom lines owed, or none: then the bonds
unfoldable pub atoms_owed : ℕ → ℕ → Place
atoms_owed k m = cond (eqb k 0) (bonds_owed m) (P.Atoms k)

abbrev pub after_end : Bool → Place
after_end true = P.Items
after_end false = P.Over
