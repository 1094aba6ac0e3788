-- Which rows can be written: computed, part by part.
use Rattle.std.specs.Prelude.{ℕ, List, map, Bool, cond, not, ◌&&◌, length, ℤ, pos, neg_ℤ}
use Rattle.std.specs.Int.Signed.{le_z}
use Rattle.rules.specs.Forms.{stereos, centres}
use Rattle.rules.specs.Canon.{AtomRow, BondRow}
use Rattle.judge_line.specs.Field.{same_integer, elem_signed}
use Rattle.field_symbols.specs.Symbol.{names}

-- ---- One number

-- from `low` to `high`
unfoldable pub in_range : ℤ → ℕ → ℤ → Bool
in_range low high z = le_z low z && le_z z (pos high)

abbrev pub minus : ℕ → ℤ
minus k = neg_ℤ (pos k)

-- the stereo marks that a type allows
unfoldable pub marks : ℤ → List ℤ
marks type =
    cond (same_integer type (pos 1)) (map pos (stereos 1))
    (cond (same_integer type (pos 2)) (map pos (stereos 2)) (map pos (stereos 0)))

-- ---- One row

-- coordinates, symbol, mass difference
unfoldable pub place_holds : AtomRow → Bool
place_holds a =
    in_range (minus 99999999) 999999999 a.x &&
    (in_range (minus 99999999) 999999999 a.y &&
    (in_range (minus 99999999) 999999999 a.z &&
    (in_range (pos 1) (length names) a.symbol &&
    in_range (minus 3) 4 a.mass_difference)))

-- charge, radical, isotope, parity, hydrogen count
unfoldable pub numbers_hold : AtomRow → Bool
numbers_hold a =
    in_range (minus 15) 15 a.charge &&
    (in_range (pos 0) 3 a.radical &&
    (in_range (pos 0) 999 a.isotope &&
    (in_range (pos 0) 3 a.parity &&
    in_range (pos 0) 5 a.hydrogen_count)))

-- stereo care, valence, H0, atom map
unfoldable pub codes_hold : ℕ → AtomRow → Bool
codes_hold n a =
    in_range (pos 0) 1 a.stereo_care &&
    (in_range (pos 0) 15 a.valence &&
    (in_range (pos 0) 1 a.H0 &&
    in_range (pos 0) n a.atom_map))

-- inversion, exact change
unfoldable pub changes_hold : AtomRow → Bool
changes_hold a = in_range (pos 0) 2 a.inversion && in_range (pos 0) 1 a.exact_change

-- in a record of n atoms
unfoldable pub atom_holds : ℕ → AtomRow → Bool
atom_holds n a = place_holds a && (numbers_hold a && (codes_hold n a && changes_hold a))

-- the bond without its ends
unfoldable pub kind_holds : BondRow → Bool
kind_holds b =
    in_range (pos 1) 8 b.type &&
    (elem_signed b.stereo (marks b.type) &&
    (in_range (pos 0) 2 b.topology &&
    elem_signed b.centre centres))

unfoldable pub bond_holds : ℕ → BondRow → Bool
bond_holds n b =
    in_range (pos 1) n b.first &&
    (in_range (pos 1) n b.second &&
    (kind_holds b &&
    not (same_integer b.first b.second)))
