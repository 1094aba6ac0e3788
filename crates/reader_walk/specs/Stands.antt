-- When the reader's state, the notes and the lent tables stand for a place of the judge.
use Rattle.std.specs.Prelude.{ℕ, suc, ◌+◌, ◌≤◌, ◌≡◌, List, [], Bool, true, false, length, take, ℤ}
use Rattle.text.specs.Text.{Bytes}
use Rattle.rules.specs.Forms.{Atom, Bond, Property}
use Rattle.rules.specs.Record.{Molecule, limit}
use Rattle.line_counts_bonds.specs.Answer.{counts_is}
use Rattle.line_counts_bonds.specs.declared.Counts.{Counts}
use Rattle.line_property.specs.Listed.{Shows}
use Rattle.line_property.specs.Proper.{Proper}
use Rattle.reader_tables.specs.Row.{raw_rows, bond_rows, Holds}
use Rattle.judge_file.specs.Place.{FileKind, molfile, sdfile}
use Rattle.judge_file.specs.Place as J
use Rattle.judge_file.specs.Place.{first, second, third, counts, atoms, bonds, properties, over, items, values}
use Rattle.judge_file.specs.WalkText.{after_lines}
use Rattle.reader_places.specs.declared.Place.{Place}
use Rattle.reader_places.specs.declared.Place.TheVariants as P
use Rattle.reader_state.specs.declared.Reader.{Reader}
use Rattle.reader_line.specs.declared.Notes.{Notes}
use Rattle.reader_pairs.specs.Keys.{keys_of, AllSmall}

-- ---- The reader's state

abbrev pub is_sd : FileKind → Bool
is_sd molfile = false
is_sd sdfile = true

abbrev pub kind_of : Bool → FileKind
kind_of true = sdfile
kind_of false = molfile

-- the reader's place, with the next line among those owed
abbrev pub place_of : J.Place → Place
place_of first = P.Header 3
place_of (second h₁) = P.Header 2
place_of (third h₁ h₂) = P.Header 1
place_of (counts hs) = P.Counts
place_of (atoms hs c k xs) = P.Atoms (suc k)
place_of (bonds hs c xs k bs) = P.Bonds (suc k)
place_of (properties hs c xs bs ps) = P.Properties
place_of (over m) = P.Over
place_of (items m is) = P.Items
place_of (values m is name vs) = P.Values

-- ---- What the tables hold

-- the atoms read so far
abbrev pub atoms_in : J.Place → List Atom
atoms_in first = []
atoms_in (second h₁) = []
atoms_in (third h₁ h₂) = []
atoms_in (counts hs) = []
atoms_in (atoms hs c k xs) = xs
atoms_in (bonds hs c xs k bs) = xs
atoms_in (properties hs c xs bs ps) = xs
atoms_in (over m) = m.atoms
atoms_in (items m is) = m.atoms
atoms_in (values m is name vs) = m.atoms

-- the bonds read so far
abbrev pub bonds_in : J.Place → List Bond
bonds_in first = []
bonds_in (second h₁) = []
bonds_in (third h₁ h₂) = []
bonds_in (counts hs) = []
bonds_in (atoms hs c k xs) = []
bonds_in (bonds hs c xs k bs) = bs
bonds_in (properties hs c xs bs ps) = bs
bonds_in (over m) = m.bonds
bonds_in (items m is) = m.bonds
bonds_in (values m is name vs) = m.bonds

-- a row for each atom and bond, and a key for each bond
pub record Rows (m : Notes) (keys : List ℕ) (ta tb : List ℤ) (xs : List Atom) (bs : List Bond) : Type 0 where
  pub atoms : m.atoms ≡ length xs
  pub bonds : m.bonds ≡ length bs
  pub atom_rows_lem : Holds ta (raw_rows xs)
  pub bond_rows_lem : Holds tb (bond_rows bs)
  pub bond_keys_lem : take (length bs) keys ≡ keys_of bs
  pub small : AllSmall bs

-- the table of listed numbers shows these property lines of a record of n atoms
pub record Listing (n : ℕ) (t : List ℕ) (ps : List Property) : Type 0 where
  pub shows : Shows n t ps
  pub proper : Proper n ps

-- the counts of the counts line, the atoms or bonds that are owed, and the property lines in the table of listed numbers
abbrev pub Counted : Counts → List ℕ → J.Place → Type 0
Counted d listed first = Unit {0}
Counted d listed (second h₁) = Unit {0}
Counted d listed (third h₁ h₂) = Unit {0}
Counted d listed (counts hs) = Unit {0}
Counted d listed (atoms hs c k xs) = (counts_is d ≡ c) × Listing c.atoms listed [] × (length xs + suc k ≡ c.atoms)
Counted d listed (bonds hs c xs k bs) = (counts_is d ≡ c) × Listing c.atoms listed [] × (length bs + suc k ≡ c.bonds)
Counted d listed (properties hs c xs bs ps) = (counts_is d ≡ c) × Listing c.atoms listed ps
Counted d listed (over m) = (counts_is d ≡ m.counts) × Listing m.counts.atoms listed m.properties
Counted d listed (items m is) = (counts_is d ≡ m.counts) × Listing m.counts.atoms listed m.properties
Counted d listed (values m is name vs) = (counts_is d ≡ m.counts) × Listing m.counts.atoms listed m.properties

-- ---- What is noted of the lines

-- the lines up to `M  END`
abbrev pub molecule_lines : Molecule → ℕ
molecule_lines m = 5 + length m.atoms + length m.bonds + length m.properties

-- where the header lines end
abbrev pub Headed : Bytes → Notes → Type 0
Headed s m = m.header_end ≡ after_lines s 0 3

-- line i is the next one
abbrev pub Marks : Bytes → Notes → ℕ → J.Place → Type 0
Marks s n i first = i ≡ 1
Marks s n i (second h₁) = i ≡ 2
Marks s n i (third h₁ h₂) = i ≡ 3
Marks s n i (counts hs) = (i ≡ 4) × Headed s n
Marks s n i (atoms hs c k xs) = (i ≡ 5 + length xs) × Headed s n
Marks s n i (bonds hs c xs k bs) = (i ≡ 5 + length xs + length bs) × Headed s n
Marks s n i (properties hs c xs bs ps) = (i ≡ 5 + length xs + length bs + length ps) × Headed s n
Marks s n i (over m) = (i ≡ suc (molecule_lines m)) × Headed s n × (n.items_start ≡ after_lines s 0 (molecule_lines m))
Marks s n i (items m is) = Headed s n × (n.items_start ≡ after_lines s 0 (molecule_lines m))
Marks s n i (values m is name vs) = Headed s n × (n.items_start ≡ after_lines s 0 (molecule_lines m))

-- ---- All of it, before line i of the text

pub record Stands (kind : FileKind) (s : Bytes) (r : Reader) (m : Notes) (listed keys : List ℕ) (ta tb : List ℤ) (i : ℕ) (p : J.Place) : Type 0 where
  pub sd : r.sd ≡ is_sd kind
  pub place : r.place ≡ place_of p
  pub few_atoms : r.counts.atoms ≤ limit
  pub few_bonds : r.counts.bonds ≤ limit
  pub counted : Counted r.counts listed p
  pub rows : Rows m keys ta tb (atoms_in p) (bonds_in p)
  pub marks : Marks s m i p
