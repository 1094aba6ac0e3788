-- When the state, the table of listed numbers and the keys stand for a place of the judge, and what judging a line tells.
use Rattle.std.specs.Prelude.{Result, Ok, Err, ℕ, ◌*◌, ◌≤◌, ◌≡◌, List, Bool, true, length, take}
use Rattle.text.specs.Text.{Line}
use Rattle.rules.specs.Forms.{Bond}
use Rattle.rules.specs.Record.{Raw, limit}
use Rattle.line_property.specs.Listed.{places}
use Rattle.judge_file.specs.Place as J
use Rattle.reader_places.specs.declared.Place.TheVariants as P
use Rattle.reader_state.specs.declared.Reader.{Reader}
use Rattle.reader_state.specs.LineRead.{moved}
use Rattle.reader_state.specs.StateParts.{begun}
use Rattle.reader_pairs.specs.Keys.{keys_of, AllSmall}
use Rattle.reader_walk.specs.Stands.{place_of, bonds_in, Counted}
use Rattle.mend_rules.specs.Mend.{some, went, fell, left}
use Rattle.mend_judge.specs.declared.Judge.{Judge}
use Rattle.judge_line.specs.declared.Refusal.{Refusal}

abbrev pub fresh : Bool → Judge
fresh some = record { reader = begun true; bonds = 0; some = some }

abbrev pub after_blank : Judge → Judge
after_blank j = record { reader = moved j.reader P.Items; bonds = j.bonds; some = j.some }

-- a key for each bond
pub record Keyed (n : ℕ) (keys : List ℕ) (bs : List Bond) : Type 0 where
  pub count : n ≡ length bs
  pub bond_keys_lem : take (length bs) keys ≡ keys_of bs
  pub small : AllSmall bs

-- within a record
pub record Stands (r : Reader) (n : ℕ) (t keys : List ℕ) (p : J.Place) : Type 0 where
  pub sd : r.sd ≡ true
  pub place : r.place ≡ place_of p
  pub few_atoms : r.counts.atoms ≤ limit
  pub few_bonds : r.counts.bonds ≤ limit
  pub counted : Counted r.counts t p
  pub bonds : Keyed n keys (bonds_in p)

-- with these records finished before
pub record Standing (j : Judge) (t keys : List ℕ) (p : J.Place) (xs : List Raw) : Type 0 where
  pub stands : Stands j.reader j.bonds t keys p
  pub before : j.some ≡ some xs
  pub listed_size : length t ≡ 3 * places
  pub key_room : length keys ≡ limit

-- at some place
pub record Placed (j : Judge) (t keys : List ℕ) : Type 0 where
  pub p : J.Place
  pub xs : List Raw
  pub standing : Standing j t keys p xs

-- what the answer tells of the line: where it leads, or its refusal
abbrev pub Tells : J.Place → List Raw → Line → Result Judge Refusal → List ℕ → List ℕ → Type 0
Tells p xs l (Ok j) t keys = (q : J.Place) × (ys : List Raw) × (left limit p xs l ≡ went q ys) × Standing j t keys q ys
Tells p xs l (Err r) t keys = left limit p xs l ≡ fell r.no r.column

pub record Judges (j : Judge) (t keys : List ℕ) (l : Line) (r : Result Judge Refusal) (t' keys' : List ℕ) : Type 0 where
  pub tells : (p : J.Place) (xs : List Raw) → Standing j t keys p xs → Tells p xs l r t' keys'
  pub listed_size : length t' ≡ 3 * places
  pub key_room : length keys' ≡ limit
