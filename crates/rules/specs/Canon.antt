-- The canonical form of a reading: which record is written for it, and which readings can be written at all.
use Rattle.std.specs.Prelude.{ℕ, zero, suc, ◌*◌, ◌-◌, ◌≤◌, ◌≡◌, ◌≢◌, List, [], ◌∷◌, ◌++◌, map, Bool, false, cond, ◌&&◌, eqb, get_or, length, take, drop, ℤ, pos, negsuc, nat_abs}
use Rattle.text.specs.Text.{Bytes, Line, byte, Each, Without}
use Rattle.text.specs.Columns.{Allowed}
use Rattle.field_numbers.specs.Number.{Between, OneOf}
use Rattle.field_symbols.specs.Symbol.{names}
use Rattle.rules.specs.Forms.{FirstHeaderLine, HeaderLine, DataHeader, Atom, Bond, stereos, centres, Kind, CHG, RAD, ISO, Entry, Property, ValueLine}
use Rattle.rules.specs.Record.{Headers, Item, Raw, NoPairTwice, Values}
use Rattle.rules.specs.Meaning.{Reading}
use Rattle.rules.specs.Write.{record_lines, file_lines}

-- ---- The numbers of a row, by name

pub record AtomRow : Type 0 where
  pub x : ℤ
  pub y : ℤ
  pub z : ℤ
  pub symbol : ℤ
  pub mass_difference : ℤ
  pub charge : ℤ
  pub radical : ℤ
  pub isotope : ℤ
  pub parity : ℤ
  pub hydrogen_count : ℤ
  pub stereo_care : ℤ
  pub valence : ℤ
  pub H0 : ℤ
  pub atom_map : ℤ
  pub inversion : ℤ
  pub exact_change : ℤ

abbrev pub atom_row : List ℤ → AtomRow
atom_row t =
    record {
      x = get_or t 0 (pos 0);
      y = get_or t 1 (pos 0);
      z = get_or t 2 (pos 0);
      symbol = get_or t 3 (pos 0);
      mass_difference = get_or t 4 (pos 0);
      charge = get_or t 5 (pos 0);
      radical = get_or t 6 (pos 0);
      isotope = get_or t 7 (pos 0);
      parity = get_or t 8 (pos 0);
      hydrogen_count = get_or t 9 (pos 0);
      stereo_care = get_or t 10 (pos 0);
      valence = get_or t 11 (pos 0);
      H0 = get_or t 12 (pos 0);
      atom_map = get_or t 13 (pos 0);
      inversion = get_or t 14 (pos 0);
      exact_change = get_or t 15 (pos 0);
    }

pub record BondRow : Type 0 where
  pub first : ℤ
  pub second : ℤ
  pub type : ℤ
  pub stereo : ℤ
  pub topology : ℤ
  pub centre : ℤ

abbrev pub bond_row : List ℤ → BondRow
bond_row t =
    record {
      first = get_or t 0 (pos 0);
      second = get_or t 1 (pos 0);
      type = get_or t 2 (pos 0);
      stereo = get_or t 3 (pos 0);
      topology = get_or t 4 (pos 0);
      centre = get_or t 5 (pos 0);
    }

-- ---- The record that is written

-- +3 is code 1 and -3 is code 7; a charge that no code has gets 0
abbrev pub code_of_charge : ℤ → ℕ
code_of_charge (pos k) = get_or (0 ∷ 3 ∷ 2 ∷ 1 ∷ []) k 0
code_of_charge (negsuc k) = get_or (5 ∷ 6 ∷ 7 ∷ []) k 0

abbrev pub is_zero : ℤ → Bool
is_zero (pos k) = eqb k 0
is_zero (negsuc k) = false

abbrev pub is_two : ℤ → Bool
is_two (pos k) = eqb k 2
is_two (negsuc k) = false

-- the code for a charge and a radical: one of the two at most can stand in it
unfoldable pub charge_code : ℤ → ℤ → ℕ
charge_code charge radical = cond (is_zero radical) (code_of_charge charge) (cond (is_zero charge && is_two radical) 4 0)

unfoldable pub atom_of : AtomRow → Atom
atom_of a =
    record {
      x = a.x;
      y = a.y;
      z = a.z;
      symbol = nat_abs a.symbol;
      mass_difference = a.mass_difference;
      charge_code = charge_code a.charge a.radical;
      parity = nat_abs a.parity;
      hydrogen_count = nat_abs a.hydrogen_count;
      stereo_care = nat_abs a.stereo_care;
      valence = nat_abs a.valence;
      H0 = nat_abs a.H0;
      atom_map = nat_abs a.atom_map;
      inversion = nat_abs a.inversion;
      exact_change = nat_abs a.exact_change;
    }

unfoldable pub bond_of : BondRow → Bond
bond_of b =
    record {
      first = nat_abs b.first;
      second = nat_abs b.second;
      type = nat_abs b.type;
      stereo = nat_abs b.stereo;
      topology = nat_abs b.topology;
      centre = b.centre;
    }

-- the number of an atom that lines of a kind give
abbrev pub number_of : Kind → AtomRow → ℤ
number_of CHG a = a.charge
number_of RAD a = a.radical
number_of ISO a = a.isotope

-- an entry for each atom whose number is not 0; the first of these atoms has number i
unfoldable pub entries_from : Kind → ℕ → List (List ℤ) → List Entry
entries_from kind i [] = []
entries_from kind i (t ∷ ts) =
    cond (is_zero (number_of kind (atom_row t))) (entries_from kind (suc i) ts)
    (record { atom = i; number = number_of kind (atom_row t) } ∷ entries_from kind (suc i) ts)

-- eight a line, in so many lines at most
unfoldable pub eights : ℕ → List Entry → List (List Entry)
eights zero es = []
eights (suc lines) [] = []
eights (suc lines) (e ∷ es) = take 8 (e ∷ es) ∷ eights lines (drop 8 (e ∷ es))

abbrev pub lines_of : Kind → List Entry → List Property
lines_of kind es = map (λ (line : List Entry). record { kind = kind; entries = line }) (eights (length es) es)

-- charges, then radicals, then isotopes
unfoldable pub properties_of : List (List ℤ) → List Property
properties_of ts = lines_of CHG (entries_from CHG 1 ts) ++ (lines_of RAD (entries_from RAD 1 ts) ++ lines_of ISO (entries_from ISO 1 ts))

-- the record that is written for a reading
unfoldable pub canon : Reading → Raw
canon x =
    record {
      molecule = record {
        headers = x.headers;
        counts = record { atoms = x.n; bonds = x.m; chiral = x.chiral };
        atoms = map (λ (t : List ℤ). atom_of (atom_row t)) x.atoms;
        bonds = map (λ (t : List ℤ). bond_of (bond_row t)) x.bonds;
        properties = properties_of x.atoms;
      };
      items = x.items;
    }

abbrev pub canon_lines : Reading → List Line
canon_lines x = record_lines (canon x)

abbrev pub canon_file : List Reading → List Line
canon_file xs = file_lines (map canon xs)

-- ---- Which readings can be written

-- no negative, from `least` to `most`
abbrev pub FromTo : ℕ → ℕ → ℤ → Type 0
FromTo least most (pos k) = (least ≤ k) × (k ≤ most)
FromTo least most (negsuc k) = ⊥

-- in a record of n atoms
pub record WritableAtom (n : ℕ) (a : AtomRow) : Type 0 where
  pub x : Between 99999999 999999999 a.x
  pub y : Between 99999999 999999999 a.y
  pub z : Between 99999999 999999999 a.z
  pub symbol : FromTo 1 (length names) a.symbol
  pub mass_difference : Between 3 4 a.mass_difference
  pub charge : Between 15 15 a.charge
  pub radical : FromTo 0 3 a.radical
  pub isotope : FromTo 0 999 a.isotope
  pub parity : FromTo 0 3 a.parity
  pub hydrogen_count : FromTo 0 5 a.hydrogen_count
  pub stereo_care : FromTo 0 1 a.stereo_care
  pub valence : FromTo 0 15 a.valence
  pub H0 : FromTo 0 1 a.H0
  pub atom_map : FromTo 0 n a.atom_map
  pub inversion : FromTo 0 2 a.inversion
  pub exact_change : FromTo 0 1 a.exact_change

pub record WritableBond (n : ℕ) (b : BondRow) : Type 0 where
  pub first : FromTo 1 n b.first
  pub second : FromTo 1 n b.second
  pub type : FromTo 1 8 b.type
  pub stereo : OneOf b.stereo (map pos (stereos (nat_abs b.type)))
  pub topology : FromTo 0 2 b.topology
  pub centre : OneOf b.centre centres
  pub ends_differ : b.first ≢ b.second

-- every row has so many numbers, and the property
unfoldable pub Rows : ℕ → (List ℤ → Type 0) → List (List ℤ) → Type 0
Rows width P [] = Unit {0}
Rows width P (t ∷ ts) = ((length t ≡ width) × P t) × Rows width P ts

pub record Writable (limit : ℕ) (x : Reading) : Type 0 where
  pub n : x.n ≤ limit
  pub m : x.m ≤ limit
  pub pairs : 2 * x.m ≤ x.n * (x.n - 1)
  pub chiral : x.chiral ≤ 1
  pub n_atoms : length x.atoms ≡ x.n
  pub m_bonds : length x.bonds ≡ x.m
  pub atoms : Rows 16 (λ t. WritableAtom x.n (atom_row t)) x.atoms
  pub bonds : Rows 6 (λ t. WritableBond x.n (bond_row t)) x.bonds
  pub no_pair_twice : NoPairTwice (canon x).molecule.bonds
  -- an isotope anywhere rules out mass differences everywhere
  pub masses : entries_from ISO 1 x.atoms ≢ [] → Rows 16 (λ t. (atom_row t).mass_difference ≡ pos 0) x.atoms

pub record GoodHeaders (h : Headers) : Type 0 where
  pub first : FirstHeaderLine h.first
  pub second : HeaderLine h.second
  pub third : HeaderLine h.third

unfoldable pub GoodValues : List Line → Type 0
GoodValues [] = Unit {0}
GoodValues (l ∷ ls) = ValueLine l × GoodValues ls

pub record GoodName (name : Bytes) : Type 0 where
  pub allowed : Each Allowed name
  pub low : 1 ≤ length name
  pub high : length name ≤ 30
  pub no_open : Without (byte "<") name
  pub no_close : Without (byte ">") name

pub record GoodItem (i : Item) : Type 0 where
  pub name : GoodName i.name
  pub values : GoodValues i.values

unfoldable pub GoodItems : List Item → Type 0
GoodItems [] = Unit {0}
GoodItems (i ∷ is) = GoodItem i × GoodItems is

-- what can be written: tables, header lines and items
pub record Good (limit : ℕ) (x : Reading) : Type 0 where
  pub writable : Writable limit x
  pub headers : GoodHeaders x.headers
  pub items : GoodItems x.items

unfoldable pub AllGood : ℕ → List Reading → Type 0
AllGood limit [] = Unit {0}
AllGood limit (x ∷ xs) = Good limit x × AllGood limit xs

-- ---- What a writer is handed beside the tables: two texts of their own

-- three lines and no more
pub data HeaderPart : List Line → Headers → Type 0 where
  three : {h₁ h₂ h₃ : Line} → FirstHeaderLine h₁ → HeaderLine h₂ → HeaderLine h₃ →
      HeaderPart (h₁ ∷ h₂ ∷ h₃ ∷ []) (record { first = h₁; second = h₂; third = h₃ })

-- any number of whole items
pub data ItemPart : List Line → List Item → Type 0 where
  none : ItemPart [] []
  more : {l : Line} {name : Bytes} {t u vs : List Line} {is : List Item} →
      DataHeader l name → Values t vs u → ItemPart u is → ItemPart (l ∷ t) (record { name = name; values = vs } ∷ is)
