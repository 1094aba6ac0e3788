-- The table of refusals: for each kind of line what is demanded of it, row by row, with the number and the column of the refusal. The demands are said in the
-- words of the rules (`Forms`, `Record`, and the forms of fields); which of these lists belongs to which place of a record is said in `Demands`.
-- The order: 3, then 4, before everything else; then the columns from the left; 12 right after the two numbers that it compares; 14 right after the atom that
-- it is about; 10 and 11 after everything else on a bond line. The column is a field's first, a byte's own for 4 and 15, and 1 for whole lines.
-- No row here is for 19, which no line is refused with, and for 1, 2, 20, 21 and 22, which name no line: these stand in the promises of the functions.
use Rattle.std.specs.Prelude.{ℕ, zero, suc, ◌+◌, ◌*◌, ◌-◌, ◌≤◌, ◌≢◌, ◌⊎◌, List, [], ◌∷◌, true, false, length, ℤ}
use Rattle.text.specs.Text.{Line}
use Rattle.text.specs.Columns.{column, columns, Space, Has, Allowed}
use Rattle.field_numbers.specs.Number.{Integer, Number, Signed, Listed, SignedListed}
use Rattle.field_coordinates.specs.Coordinate.{Coordinate}
use Rattle.field_symbols.specs.Symbol.{Symbol}
use Rattle.rules.specs.Forms.{Begins, Contains, stereos, centres, Bond, BondLine, Kind, CHG, RAD, ISO, tag, Property, DataHeader, RecordEnd}
use Rattle.rules.specs.Record.{NewPair, listed, NotListed}
use Rattle.judge_refusals.specs.Demand.{Demand, ◌else◌at_column◌, ◌and_then◌, Some, given, whichever}

-- ---- Parts of lines

-- the same of every column from i to j, each at its own column
abbrev pub each_for : (ℕ → Type 0) → ℕ → Line → ℕ → ℕ → List Demand
each_for P e l i zero = []
each_for P e l i (suc width) = P (column l i) else e at_column i ∷ each_for P e l (suc i) width

abbrev pub each : (ℕ → Type 0) → ℕ → Line → ℕ → ℕ → List Demand
each P e l i j = each_for P e l i (suc j - i)

-- 3: a line of so many columns at most; 4: of allowed bytes. Columns past the end read as spaces, which are allowed.
abbrev pub fitting : ℕ → Line → List Demand
fitting longest l = (length l ≤ longest) else 3 at_column (suc longest) ∷ each Allowed 4 l 1 longest

-- 7: columns i to j are an integer field, here without a `-`; 8: its number is from `least` to `most`
abbrev pub number : Line → ℕ → ℕ → ℕ → ℕ → List Demand
number l i j least most = Some (Integer false (columns l i j)) else 7 at_column i ∷ Some (Number l i j least most) else 8 at_column i ∷ []

-- the same of a range with negatives, from minus `below` to `above`
abbrev pub signed : Line → ℕ → ℕ → ℕ → ℕ → List Demand
signed l i j below above = Some (Integer true (columns l i j)) else 7 at_column i ∷ Some (Signed l i j below above) else 8 at_column i ∷ []

-- and of a list with negatives
abbrev pub signed_listed : Line → ℕ → ℕ → List ℤ → List Demand
signed_listed l i j list = Some (Integer true (columns l i j)) else 7 at_column i ∷ Some (SignedListed l i j list) else 8 at_column i ∷ []

-- 7: columns i to j are a coordinate, of whatever size
abbrev pub coordinate : Line → ℕ → ℕ → List Demand
coordinate l i j = Some (Coordinate (columns l i j)) else 7 at_column i ∷ []

-- 9: columns i to j are a symbol
abbrev pub symbol : Line → ℕ → ℕ → List Demand
symbol l i j = Some (Symbol (columns l i j)) else 9 at_column i ∷ []

-- 15: column i is a space; all columns from i on are, up to the last that the line can have
abbrev pub space : Line → ℕ → List Demand
space l i = Space (column l i) else 15 at_column i ∷ []

abbrev pub spaces_from_lem : Line → ℕ → List Demand
spaces_from_lem l i = each Space 15 l i 80

-- ---- 1. Header lines

abbrev pub Unreserved : Line → Type 0
Unreserved l = (¬ Contains l "$$$$") × (¬ Contains l "$MDL") × (¬ Contains l "$RXN") × (¬ Contains l "$RDFILE")

-- 5: none of these tags stands in the first header line
abbrev pub no_reserved_tag : Line → List Demand
no_reserved_tag l = Unreserved l else 5 at_column 1 ∷ []

-- ---- 2. The counts line

-- atoms, bonds, atom lists, chiral, stext; 12: no more bonds than pairs of atoms; 6: the version
abbrev pub counts_demands : ℕ → Line → List Demand
counts_demands limit l =
    number l 1 3 0 limit and_then
    number l 4 6 0 limit and_then
    (Some λ n. Some λ m. Number l 1 3 0 limit n × Number l 4 6 0 limit m × (2 * m ≤ n * (n - 1))) else 12 at_column 4 ∷
    number l 7 9 0 0 and_then
    number l 13 15 0 1 and_then
    number l 16 18 0 0 and_then
    Has l 34 39 " V2000" else 6 at_column 34 ∷
    spaces_from_lem l 40

-- ---- 3. Atom lines, in a record of n atoms

-- three coordinates, a space, the symbol, mass difference, charge code, parity, hydrogen count, stereo care, valence, H0; atom map, inversion, exact change
abbrev pub atom_demands : ℕ → Line → List Demand
atom_demands n l =
    coordinate l 1 10 and_then
    coordinate l 11 20 and_then
    coordinate l 21 30 and_then
    space l 31 and_then
    symbol l 32 34 and_then
    signed l 35 36 3 4 and_then
    number l 37 39 0 7 and_then
    number l 40 42 0 3 and_then
    number l 43 45 0 5 and_then
    number l 46 48 0 1 and_then
    number l 49 51 0 15 and_then
    number l 52 54 0 1 and_then
    number l 61 63 0 n and_then
    number l 64 66 0 2 and_then
    number l 67 69 0 1 and_then
    spaces_from_lem l 70

-- ---- 4. Bond lines, in a record of n atoms and after these bonds

-- two ends, type, stereo mark, topology, reacting centre; the marks that are good go by the type; 10: the ends differ
abbrev pub bond_demands : ℕ → Line → List Demand
bond_demands n l =
    number l 1 3 1 n and_then
    number l 4 6 1 n and_then
    number l 7 9 1 8 and_then
    (Some (Integer false (columns l 10 12)) else 7 at_column 10 ∷
    (Some λ type. Number l 7 9 1 8 type × Some (Listed l 10 12 (stereos type))) else 8 at_column 10 ∷ []) and_then
    number l 16 18 0 2 and_then
    signed_listed l 19 21 centres and_then
    spaces_from_lem l 22 and_then
    (Some λ first. Some λ second. Number l 1 3 1 n first × Number l 4 6 1 n second × (first ≢ second)) else 10 at_column 1 ∷ []

-- 11: no bond before joins the same two atoms
abbrev pub new_pair : ℕ → List Bond → Line → List Demand
new_pair n bs l = (Some λ b. BondLine n l b × NewPair b bs) else 11 at_column 1 ∷ []

-- ---- 5. Property lines, in a record of n atoms and after these property lines

-- the range of an entry's number goes by the kind of the line
abbrev pub entry_number : Line → ℕ → ℕ → Kind → List Demand
entry_number l i j CHG = signed l i j 15 15
entry_number l i j RAD = number l i j 0 3
entry_number l i j ISO = number l i j 1 999

-- so many entries, the first from column i on; 14: each is of an atom that is new, so of none that an entry before it has
abbrev pub entries : ℕ → Kind → Line → (ℕ → Type 0) → ℕ → ℕ → List Demand
entries n kind l New i zero = []
entries n kind l New i (suc k) =
    space l i and_then
    number l (i + 1) (i + 3) 1 n and_then
    (Some λ atom. Number l (i + 1) (i + 3) 1 n atom × New atom) else 14 at_column (i + 1) ∷
    space l (i + 4) and_then
    entry_number l (i + 5) (i + 7) kind and_then
    entries n kind l (λ atom. New atom × (¬ Number l (i + 1) (i + 3) 1 n atom)) (i + 8) k

-- a line of one kind: how many entries, as many entries, and spaces after them
abbrev pub listing : ℕ → Kind → (ℕ → Type 0) → Line → List Demand
listing n kind New l =
    number l 7 9 1 8 and_then
    whichever (1 ∷ 2 ∷ 3 ∷ 4 ∷ 5 ∷ 6 ∷ 7 ∷ 8 ∷ []) (Number l 7 9 1 8) λ k.
    entries n kind l New 10 k and_then
    spaces_from_lem l (10 + 8 * k)

-- 13: columns 1 to 6 are one of the four tags
abbrev pub one_of_four : Line → List Demand
one_of_four l = ((Some λ kind. Has l 1 6 (tag kind)) ⊎ Has l 1 6 "M  END") else 13 at_column 1 ∷ []

-- what follows the tag goes by the tag
abbrev pub property_demands : ℕ → List Property → Line → List Demand
property_demands n ps l =
    one_of_four l and_then
    whichever (CHG ∷ RAD ∷ ISO ∷ []) (λ kind. Has l 1 6 (tag kind)) (λ kind. listing n kind (λ atom. NotListed atom (listed kind ps)) l) and_then
    given (Has l 1 6 "M  END") (spaces_from_lem l 7)

-- ---- 6. Data items

-- 16: a data header or a `$$$$` line, whatever keeps it from being one
abbrev pub header_or_end : Line → List Demand
header_or_end l = (Some (DataHeader l) ⊎ RecordEnd l) else 16 at_column 1 ∷ []

-- 17: the line neither begins `$$$$` nor is a data header; a blank line and a value line are all that is left
abbrev pub value_or_blank : Line → List Demand
value_or_blank l = ((¬ Begins l "$$$$") × (¬ Some (DataHeader l))) else 17 at_column 1 ∷ []

-- ---- After the last line

-- 18: no line may stand here
abbrev pub no_line : List Demand
no_line = ⊥ else 18 at_column 1 ∷ []
