-- One step of the reader's state: what a line was, and the state after it. The tables beside the state hold what has been read.
use Rattle.std.specs.Prelude.{Result, Ok, Err, ℕ, ◌+◌, ◌-◌, ◌≤◌, ◌≡◌, List, cond, eqb, take, drop}
use Rattle.text.specs.Text.{Bytes, Line}
use Rattle.rules.specs.Forms as R
use Rattle.rules.specs.Record.{limit}
use Rattle.judge_line.specs.Got.{Got, got, bad, then}
use Rattle.judge_line.specs.Field.{within}
use Rattle.judge_line.specs.Judge as J
use Rattle.line_atom.specs.Answer.{atom_is}
use Rattle.line_counts_bonds.specs.Answer.{bond_is}
use Rattle.line_counts_bonds.specs.declared.Counts.{Counts}
use Rattle.line_property.specs.Listed.{seen_of, enter, emptied}
use Rattle.reader_places.specs.declared.Place.{Place}
use Rattle.reader_places.specs.declared.Place.TheVariants as P
use Rattle.reader_places.specs.Places.{bonds_owed, atoms_owed, after_end, longest_in}
use Rattle.reader_state.specs.declared.Reader.{Reader}
use Rattle.judge_line.specs.declared.Refusal.{Refusal}
use Rattle.reader_state.specs.declared.Step.{Step}

pub data Went : Type 0 where
  on : Reader → Went
  headed : Reader → Went
  atom : Reader → R.Atom → Went
  bond : Reader → R.Bond → Went
  ended : Reader → Went
  title : Reader → Bytes → Went
  value : Reader → Went
  blank : Reader → Went
  done : Went

-- what the code's answer says of the line
abbrev pub step_got : Line → Result Step Refusal → Got Went
step_got l (Ok (Step.Next r)) = got (on r)
step_got l (Ok (Step.Headed r)) = got (headed r)
step_got l (Ok (Step.Atom r a)) = got (atom r (atom_is a))
step_got l (Ok (Step.Bond r b)) = got (bond r (bond_is b))
step_got l (Ok (Step.Ended r)) = got (ended r)
step_got l (Ok (Step.Title r from to)) = got (title r (take (to - from) (drop from l)))
step_got l (Ok (Step.Value r)) = got (value r)
step_got l (Ok (Step.Blank r)) = got (blank r)
step_got l (Ok Step.Done) = got done
step_got l (Err r) = bad r.no r.column

-- the same state at another place
abbrev pub moved : Reader → Place → Reader
moved r p = record { sd = r.sd; place = p; counts = r.counts }

-- the state after a counts line
abbrev pub counted : Reader → R.Counts → Reader
counted r c =
    record {
      sd = r.sd;
      place = atoms_owed c.atoms c.bonds;
      counts = record { atoms = c.atoms; bonds = c.bonds; chiral = c.chiral };
    }

abbrev pub after_property : Reader → J.PropertyOrEnd → Went
after_property r (J.property p) = on r
after_property r J.last = ended (moved r (after_end r.sd))

abbrev pub after_item : Reader → J.ItemOrEnd → Went
after_item r (J.title name) = title (moved r P.Values) name
after_item r J.close = done

abbrev pub after_value : Reader → J.ValueOrBlank → Went
after_value r J.value = value r
after_value r J.blank = blank (moved r P.Items)

-- a header line, with so many owed
unfoldable pub header_in : Reader → ℕ → Line → Got Went
header_in r owed l =
    cond (eqb owed 3) (then (J.first_header_of l) λ h. got (on (moved r (P.Header 2))))
    (cond (eqb owed 2) (got (on (moved r (P.Header 1)))) (got (headed (moved r P.Counts))))

-- a line of good length and bytes, with the table of listed numbers
unfoldable pub line_in : Reader → Place → List ℕ → Line → Got Went
line_in r (P.Header owed) t l = header_in r owed l
line_in r P.Counts t l = then (J.counts_of limit l) λ c. got (on (counted r c))
line_in r (P.Atoms owed) t l =
    then (J.atom_of r.counts.atoms l) λ a. got (atom (moved r (atoms_owed (owed - 1) r.counts.bonds)) a)
line_in r (P.Bonds owed) t l = then (J.bond_of r.counts.atoms l) λ b. got (bond (moved r (bonds_owed (owed - 1))) b)
line_in r P.Properties t l =
    then (J.property_of r.counts.atoms (seen_of r.counts.atoms t) l) λ p. got (after_property r p)
line_in r P.Over t l = bad 18 1
line_in r P.Items t l = then (J.item_of l) λ i. got (after_item r i)
line_in r P.Values t l = then (J.value_of l) λ v. got (after_value r v)

unfoldable pub went_of : Reader → List ℕ → Line → Got Went
went_of r t l = within (longest_in r.place) l (line_in r r.place t l)

-- the table of listed numbers after a line that is not refused: emptied at the counts line for the atoms that it counts, entered at a property line
abbrev pub entered_by : List ℕ → Got J.PropertyOrEnd → List ℕ
entered_by t (got (J.property p)) = enter p.kind t p.entries
entered_by t (got J.last) = t
entered_by t (bad e column) = t

abbrev pub emptied_by : List ℕ → Got R.Counts → List ℕ
emptied_by t (got c) = emptied (c.atoms + 1) t
emptied_by t (bad e column) = t

abbrev pub table_at : Reader → Place → List ℕ → Line → List ℕ
table_at r (P.Header owed) t l = t
table_at r P.Counts t l = emptied_by t (J.counts_of limit l)
table_at r (P.Atoms owed) t l = t
table_at r (P.Bonds owed) t l = t
table_at r P.Properties t l = entered_by t (J.property_of r.counts.atoms (seen_of r.counts.atoms t) l)
table_at r P.Over t l = t
table_at r P.Items t l = t
table_at r P.Values t l = t

pub record Kept (r : Reader) (t : List ℕ) (l : Line) (t' : List ℕ) : Type 0 where
  pub kept : (w : Went) → went_of r t l ≡ got w → t' ≡ table_at r r.place t l

-- states that a reader can be in: lines are owed where the place says so, and no count is above the limit
abbrev pub Owing : Place → Type 0
Owing (P.Header owed) = (1 ≤ owed) × (owed ≤ 3)
Owing P.Counts = Unit {0}
Owing (P.Atoms owed) = (1 ≤ owed) × (owed ≤ limit)
Owing (P.Bonds owed) = (1 ≤ owed) × (owed ≤ limit)
Owing P.Properties = Unit {0}
Owing P.Over = Unit {0}
Owing P.Items = Unit {0}
Owing P.Values = Unit {0}

pub record Sane (r : Reader) : Type 0 where
  pub owing : Owing r.place
  pub atoms : r.counts.atoms ≤ limit
  pub bonds : r.counts.bonds ≤ limit
