-- What the code's answers say, as the judge says it, with the table beside them.
use Rattle.std.specs.Prelude.{Result, Ok, Err, Option, Some, None, ℕ, ◌+◌, List, eqb, get_or, set}
use Rattle.text.specs.Text.{Line}
use Rattle.rules.specs.Forms as R
use Rattle.judge_line.specs.Got.{Got, got, bad, then, need}
use Rattle.judge_line.specs.Field.{number_at, space_at}
use Rattle.judge_line.specs.Judge.{PropertyOrEnd, property, last, entry_number_at, entries_of}
use Rattle.line_property.specs.Listed.{slot, noted, enter, seen_of}
use Rattle.line_property.specs.declared.Kind.{Kind}
use Rattle.line_property.specs.declared.PropertyLine.{PropertyLine}
use Rattle.judge_line.specs.declared.Refusal.{Refusal}

abbrev pub property_read : Got PropertyOrEnd → Result PropertyLine Refusal
property_read (got (property p)) = Ok PropertyLine.Listed
property_read (got last) = Ok PropertyLine.End
property_read (bad e column) = Err (record { no = e; column = column })

abbrev pub kind_is : Kind → R.Kind
kind_is Kind.Charge = R.CHG
kind_is Kind.Radical = R.RAD
kind_is Kind.Isotope = R.ISO

-- ---- one entry

-- a number without negatives as the table keeps it
unfoldable pub plain_at : Line → ℕ → ℕ → ℕ → ℕ → Got ℕ
plain_at l i j least most = then (number_at l i j least most) λ k. got (k + 16)

-- the number of an entry as the table keeps it
unfoldable pub noted_at : Line → ℕ → ℕ → R.Kind → Got ℕ
noted_at l i j kind = then (entry_number_at l i j kind) λ z. got (noted z)

-- the place of an entry from column i on; the table does not list its atom
unfoldable pub place_at : ℕ → R.Kind → Line → ℕ → List ℕ → Got ℕ
place_at n kind l i t =
    space_at l i
    (then (number_at l (i + 1) (i + 3) 1 n) λ atom.
    need (eqb (get_or t (slot kind atom) 0) 0) 14 (i + 1)
    (got (slot kind atom)))

-- the table after an entry from column i on
unfoldable pub entered_at : ℕ → R.Kind → Line → ℕ → List ℕ → Got (List ℕ)
entered_at n kind l i t =
    then (place_at n kind l i t) λ place.
    space_at l (i + 4)
    (then (noted_at l (i + 5) (i + 7) kind) λ k.
    got (set t place k))

-- ---- entries

-- the table after so many entries from column i on
unfoldable pub entered_from : ℕ → R.Kind → Line → ℕ → ℕ → List ℕ → Got (List ℕ)
entered_from n kind l i k t = then (entries_of n kind l i k (seen_of n t kind)) λ es. got (enter kind t es)

-- an answer and the table then
abbrev pub entered_got : Result (Unit {0}) Refusal → List ℕ → Got (List ℕ)
entered_got (Ok tt) t = got t
entered_got (Err r) t = bad r.no r.column

-- ---- the rest of a line

-- what is read where nothing stands any more, and else the refusal
abbrev pub rest_read : PropertyLine → Option ℕ → Result PropertyLine Refusal
rest_read r None = Ok r
rest_read r (Some column) = Err (record { no = 15; column = column })
