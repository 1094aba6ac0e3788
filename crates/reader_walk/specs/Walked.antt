-- What the walk over one record answers, and what it leaves in the lent tables.
use Rattle.std.specs.Prelude.{ℕ, ◌-◌, ◌*◌, ◌≤◌, ◌≡◌, refl, List, length, drop, ℤ}
use Rattle.std.proofs.Common.{◌∙◌}
use Rattle.text.specs.Text.{Bytes}
use Rattle.rules.specs.Record.{Molecule, atom_places, bond_places}
use Rattle.line_property.specs.Listed.{places}
use Rattle.reader_tables.specs.Row.{raw_rows, bond_rows, Holds}
use Rattle.judge_file.specs.Place.{FileKind, molfile, sdfile}
use Rattle.judge_file.specs.WalkText.{after_lines}
use Rattle.reader_end.specs.declared.Walked.{Walked}
use Rattle.reader_walk.specs.Outcome.{Outcome, whole, refused, outcome_of}
use Rattle.reader_rows.specs.Says.{row_places}
use Rattle.reader_rows.specs.Marked.{marked}
use Rattle.reader_pairs.specs.Keys.{keys_of}
use Rattle.reader_line.specs.LineTaken.{counts_back}
use Rattle.reader_walk.specs.Stands.{Listing, molecule_lines}

-- where the items of a record of k lines end: before the `$$$$` line; a molfile has none
abbrev pub items_end : FileKind → Bytes → Molecule → ℕ → ℕ
items_end molfile s m k = after_lines s 0 (molecule_lines m)
items_end sdfile s m k = after_lines s 0 (k - 1)

abbrev pub walked_by : FileKind → Bytes → Outcome → Walked
walked_by kind s (whole x k) =
    Walked.Whole (counts_back x.molecule.counts) (after_lines s 0 k) k (after_lines s 0 3) (after_lines s 0 (molecule_lines x.molecule)) (items_end kind s x.molecule k)
walked_by kind s (refused e i column) = Walked.Refused e i column

-- one record from the front of the text
unfoldable pub walk_of : FileKind → Bytes → Walked
walk_of kind s = walked_by kind s (outcome_of kind s)

-- ---- The tables

-- t was t₀: it has the same length, and from place k on nothing changed
pub record Beside (k : ℕ) (t₀ t : List ℤ) : Type 0 where
  pub room : k ≤ length t₀
  pub size : length t ≡ length t₀
  pub past : drop k t ≡ drop k t₀

pub beside_same : (k : ℕ) (t : List ℤ) → k ≤ length t → Beside k t t
beside_same k t h = record { room = h; size = refl; past = refl }

pub beside_join : {k : ℕ} {t u v : List ℤ} → Beside k t u → Beside k u v → Beside k t v
beside_join p q = record { room = p.room; size = q.size ∙ p.size; past = q.past ∙ p.past }

-- the tables hold the record as it was written
pub record Held (ta tb : List ℤ) (t : List ℕ) (m : Molecule) : Type 0 where
  pub atom_rows_lem : Holds ta (raw_rows m.atoms)
  pub bond_rows_lem : Holds tb (bond_rows m.bonds)
  pub listed : Listing m.counts.atoms t m.properties

-- after a refusal the first places may hold anything
abbrev pub HeldBy : List ℤ → List ℤ → List ℕ → Outcome → Type 0
HeldBy ta tb t (whole x k) = Held ta tb t x.molecule
HeldBy ta tb t (refused e i column) = Unit {0}

-- room for as many atoms and bonds as a record may have
pub record Left (ta₀ ta tb₀ tb : List ℤ) (t : List ℕ) (o : Outcome) : Type 0 where
  pub atoms : Beside atom_places ta₀ ta
  pub bonds : Beside bond_places tb₀ tb
  pub size : length t ≡ 3 * places
  pub held : HeldBy ta tb t o

-- ---- The lent rows

-- they say the pairs of a whole record; after a refusal they may say anything
abbrev pub MarksBy : List ℕ → List ℕ → Outcome → Type 0
MarksBy ws₀ ws (whole x k) = ws ≡ marked ws₀ (keys_of x.molecule.bonds)
MarksBy ws₀ ws (refused e i column) = Unit {0}

pub record RowsMarked (ws₀ ws : List ℕ) (o : Outcome) : Type 0 where
  pub size : length ws ≡ length ws₀
  pub past : drop row_places ws ≡ drop row_places ws₀
  pub marks : MarksBy ws₀ ws o
