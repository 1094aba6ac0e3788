-- The forms of lines: for each kind of line, what its columns hold and which value it then stands for. Columns that no field names may hold any allowed byte.
use Rattle.std.specs.Prelude.{ℕ, ◌+◌, ◌*◌, ◌-◌, ◌≤◌, ◌≡◌, ◌≢◌, List, [], ◌∷◌, ◌++◌, Bool, cond, eqb, length, ℤ, pos, negsuc}
use Prim.Native.String.{String}
use Rattle.text.specs.Text.{Bytes, Line, bytes, byte, Without}
use Rattle.text.specs.Columns.{column, columns, spaces, Space, SpacesFrom, Has, Within, Blank}
use Rattle.field_numbers.specs.Number.{Number, Signed, Listed, SignedListed}
use Rattle.field_coordinates.specs.Coordinate.{Coordinate}
use Rattle.field_symbols.specs.Symbol.{Symbol}

-- the text stands at the start of the line
abbrev pub Begins : Line → String → Type 0
Begins l text = (after : Bytes) × (l ≡ bytes text ++ after)

-- the text stands somewhere in the line
abbrev pub Contains : Line → String → Type 0
Contains l text = (before : Bytes) × (after : Bytes) × (l ≡ before ++ (bytes text ++ after))

-- ---- 1. Header lines

abbrev pub HeaderLine : Line → Type 0
HeaderLine l = Within 80 l

-- the first must not be taken for the start or the end of a file or record
pub record FirstHeaderLine (l : Line) : Type 0 where
  pub line : Within 80 l
  pub no_end : ¬ Contains l "$$$$"
  pub no_molfile : ¬ Contains l "$MDL"
  pub no_rxnfile : ¬ Contains l "$RXN"
  pub no_rdfile : ¬ Contains l "$RDFILE"

-- ---- 2. The counts line

-- how many atoms and bonds, and the chiral flag
pub record Counts : Type 0 where
  pub atoms : ℕ
  pub bonds : ℕ
  pub chiral : ℕ

-- aaabbblllfffcccsssxxxrrrpppiiimmmvvvvvv
--   2  1  0  0  0  0  0  0  0  0999 V2000
-- n atoms have n(n-1)/2 pairs, and no more bonds than pairs
pub record CountsLine (limit : ℕ) (l : Line) (c : Counts) : Type 0 where
  pub line : Within 80 l
  pub atoms : Number l 1 3 0 limit c.atoms
  pub bonds : Number l 4 6 0 limit c.bonds
  pub pairs : 2 * c.bonds ≤ c.atoms * (c.atoms - 1)
  pub atom_lists : Number l 7 9 0 0 0
  -- 10 to 12 are free
  pub chiral : Number l 13 15 0 1 c.chiral
  pub stext : Number l 16 18 0 0 0
  -- 19 to 33 are free
  pub version : Has l 34 39 " V2000"
  pub rest : SpacesFrom l 40

-- ---- 3. Atom lines

-- an atom as its line has it
pub record Atom : Type 0 where
  pub x : ℤ
  pub y : ℤ
  pub z : ℤ
  pub symbol : ℕ
  pub mass_difference : ℤ
  pub charge_code : ℕ
  pub parity : ℕ
  pub hydrogen_count : ℕ
  pub stereo_care : ℕ
  pub valence : ℕ
  pub H0 : ℕ
  pub atom_map : ℕ
  pub inversion : ℕ
  pub exact_change : ℕ

-- xxxxx.xxxxyyyyy.yyyyzzzzz.zzzz aaaddcccssshhhbbbvvvHHHrrriiimmmnnneee
--     1.2500   -0.8250    0.0000 O   0  5  0  0  0  0  0  0  0  0  0  0
-- in a record of n atoms
pub record AtomLine (n : ℕ) (l : Line) (a : Atom) : Type 0 where
  pub line : Within 80 l
  pub x : Coordinate (columns l 1 10) a.x
  pub y : Coordinate (columns l 11 20) a.y
  pub z : Coordinate (columns l 21 30) a.z
  pub space : Space (column l 31)
  pub symbol : Symbol (columns l 32 34) a.symbol
  pub mass_difference : Signed l 35 36 3 4 a.mass_difference
  pub charge_code : Number l 37 39 0 7 a.charge_code
  pub parity : Number l 40 42 0 3 a.parity
  pub hydrogen_count : Number l 43 45 0 5 a.hydrogen_count
  pub stereo_care : Number l 46 48 0 1 a.stereo_care
  pub valence : Number l 49 51 0 15 a.valence
  pub H0 : Number l 52 54 0 1 a.H0
  -- 55 to 60 are free
  pub atom_map : Number l 61 63 0 n a.atom_map
  pub inversion : Number l 64 66 0 2 a.inversion
  pub exact_change : Number l 67 69 0 1 a.exact_change
  pub rest : SpacesFrom l 70

-- ---- 4. Bond lines

-- a bond joins two atoms by their numbers
pub record Bond : Type 0 where
  pub first : ℕ
  pub second : ℕ
  pub type : ℕ
  pub stereo : ℕ
  pub topology : ℕ
  pub centre : ℤ

-- which stereo marks a bond of this type can have: single bonds can be drawn as wedges, double bonds as crossed
abbrev pub stereos : ℕ → List ℕ
stereos type = cond (eqb type 1) (0 ∷ 1 ∷ 4 ∷ 6 ∷ []) (cond (eqb type 2) (0 ∷ 3 ∷ []) (0 ∷ []))

-- the marks of a reacting centre
abbrev pub centres : List ℤ
centres = negsuc 0 ∷ pos 0 ∷ pos 1 ∷ pos 2 ∷ pos 4 ∷ pos 5 ∷ pos 8 ∷ pos 9 ∷ pos 12 ∷ pos 13 ∷ []

-- 111222tttsssxxxrrrccc
--   1  2  1  0  0  0  0
-- in a record of n atoms
pub record BondLine (n : ℕ) (l : Line) (b : Bond) : Type 0 where
  pub line : Within 80 l
  pub first : Number l 1 3 1 n b.first
  pub second : Number l 4 6 1 n b.second
  pub type : Number l 7 9 1 8 b.type
  pub stereo : Listed l 10 12 (stereos b.type) b.stereo
  -- 13 to 15 are free
  pub topology : Number l 16 18 0 2 b.topology
  pub centre : SignedListed l 19 21 centres b.centre
  pub rest : SpacesFrom l 22
  pub ends_differ : b.first ≢ b.second

-- ---- 5. Property lines

-- charges, radicals, isotopes
pub data Kind : Type 0 where
  CHG : Kind
  RAD : Kind
  ISO : Kind

abbrev pub same_kind : Kind → Kind → Bool
same_kind j k = eqb (number j) (number k)
  where
    number : Kind → ℕ
    number CHG = 0
    number RAD = 1
    number ISO = 2

-- an atom and the number given to it
pub record Entry : Type 0 where
  pub atom : ℕ
  pub number : ℤ

pub record Property : Type 0 where
  pub kind : Kind
  pub entries : List Entry

abbrev pub tag : Kind → String
tag CHG = "M  CHG"
tag RAD = "M  RAD"
tag ISO = "M  ISO"

-- the range of the number goes by the kind; only charges have negatives
pub data EntryNumber (l : Line) (i j : ℕ) : Kind → ℤ → Type 0 where
  charge : {z : ℤ} → Signed l i j 15 15 z → EntryNumber l i j CHG z
  radical : {k : ℕ} → Number l i j 0 3 k → EntryNumber l i j RAD (pos k)
  isotope : {k : ℕ} → Number l i j 1 999 k → EntryNumber l i j ISO (pos k)

-- an entry takes eight columns, of which i is the first
pub record EntryAt (n : ℕ) (kind : Kind) (l : Line) (i : ℕ) (e : Entry) : Type 0 where
  pub space : Space (column l i)
  pub atom : Number l (i + 1) (i + 3) 1 n e.atom
  pub space_between : Space (column l (i + 4))
  pub number : EntryNumber l (i + 5) (i + 7) kind e.number

-- one entry after the other, from column i on
unfoldable pub EntriesFrom : ℕ → Kind → Line → ℕ → List Entry → Type 0
EntriesFrom n kind l i [] = Unit {0}
EntriesFrom n kind l i (e ∷ es) = EntryAt n kind l i e × EntriesFrom n kind l (i + 8) es

-- M  CHGnn8 aaa vvv ...
-- M  CHG  1   2  -1
pub record PropertyLine (n : ℕ) (l : Line) (p : Property) : Type 0 where
  pub line : Within 80 l
  pub tagged : Has l 1 6 (tag p.kind)
  pub count : Number l 7 9 1 8 (length p.entries)
  pub entries : EntriesFrom n p.kind l 10 p.entries
  pub rest : SpacesFrom l (10 + 8 * length p.entries)

pub record EndLine (l : Line) : Type 0 where
  pub line : Within 80 l
  pub tagged : Has l 1 6 "M  END"
  pub rest : SpacesFrom l 7

-- ---- 6. Data items and the line `$$$$`

-- >  <NAME>
-- the name stands between the only two angle brackets that follow the first byte
pub record DataHeader (l : Line) (name : Bytes) : Type 0 where
  pub line : Within 80 l
  pub between : ℕ
  pub after : ℕ
  pub some : 1 ≤ between
  pub parts : l ≡ bytes ">" ++ (spaces between ++ (bytes "<" ++ (name ++ (bytes ">" ++ spaces after))))
  pub name_low : 1 ≤ length name
  pub name_high : length name ≤ 30
  pub no_open : Without (byte "<") name
  pub no_close : Without (byte ">") name

-- a blank line may be long, since it stands where a value line could
pub record BlankLine (l : Line) : Type 0 where
  pub line : Within 200 l
  pub blank : Blank l

-- any other line that ends neither the item nor the record and starts no new item
pub record ValueLine (l : Line) : Type 0 where
  pub line : Within 200 l
  pub not_blank : ¬ Blank l
  pub no_end : ¬ Begins l "$$$$"
  pub no_header : (name : Bytes) → ¬ DataHeader l name

pub record RecordEnd (l : Line) : Type 0 where
  pub line : Within 80 l
  pub tagged : Has l 1 4 "$$$$"
  pub rest : SpacesFrom l 5
