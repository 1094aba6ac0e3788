-- Samples that the rules are held against by themselves, without the judge: what may not follow, what codes and property lines come to, what is written.
-- The bench samples, with numbers, lines and columns of refusals, stand in `judge_file/specs/Samples`.
use Rattle.std.specs.Prelude.{ℕ, ◌≡◌, List, [], ◌∷◌, ◌++◌, map, length, ℤ, pos, negsuc}
use Prim.Native.String.{String}
use Rattle.text.specs.Text.{bytes}
use Rattle.rules.specs.Record.{Item, Raw, Molfile, SDfile, limit}
use Rattle.rules.specs.Meaning.{Reading, meaning}
use Rattle.rules.specs.Viable.{Dead, AMolfile, AnSDfile}
use Rattle.rules.specs.Canon.{canon_file}

-- what lines stand for, as a molfile; lines that no further lines can finish, as a molfile or as an SDfile; what readings are written as
pub data Sample : Type 0 where
  molfile : List String → Reading → Sample
  dead_molfile : List String → Sample
  dead_sdfile : List String → Sample
  written : List Reading → List String → Sample

abbrev pub Holds : Sample → Type 0
Holds (molfile ls x) = (r : Raw) × Molfile limit (map bytes ls) r × (meaning r ≡ x)
Holds (dead_molfile ls) = Dead (AMolfile limit) (map bytes ls)
Holds (dead_sdfile ls) = Dead (AnSDfile limit) (map bytes ls)
Holds (written xs ls) = canon_file xs ≡ map bytes ls

-- ---- Readings of the samples

-- an atom at a place, with a symbol, mass difference, charge, radical and isotope
abbrev pub atom_with : ℤ → ℤ → ℕ → ℤ → ℤ → ℕ → ℕ → List ℤ
atom_with x y symbol mass charge radical isotope =
    x ∷ y ∷ pos 0 ∷ pos symbol ∷ mass ∷ charge ∷ pos radical ∷ pos isotope ∷ pos 0 ∷ pos 0 ∷ pos 0 ∷ pos 0 ∷ pos 0 ∷ pos 0 ∷ pos 0 ∷ pos 0 ∷ []

abbrev pub atom : ℤ → ℤ → ℕ → ℤ → List ℤ
atom x y symbol charge = atom_with x y symbol (pos 0) charge 0 0

-- a carbon at the origin
abbrev pub carbon : ℤ → ℤ → ℕ → ℕ → List ℤ
carbon mass charge radical isotope = atom_with (pos 0) (pos 0) 6 mass charge radical isotope

-- with a charge alone
abbrev pub charged : ℤ → List ℤ
charged charge = carbon (pos 0) charge 0 0

abbrev pub bond : ℕ → ℕ → List ℤ
bond a b = pos a ∷ pos b ∷ pos 1 ∷ pos 0 ∷ pos 0 ∷ pos 0 ∷ []

abbrev pub reading : String → String → List (List ℤ) → List (List ℤ) → List Item → Reading
reading first third atoms bonds items =
    record {
      headers = record { first = bytes first; second = []; third = bytes third };
      n = length atoms;
      m = length bonds;
      chiral = 0;
      atoms = atoms;
      bonds = bonds;
      items = items;
    }

-- atoms alone
abbrev pub atoms_only : String → List (List ℤ) → Reading
atoms_only first atoms = reading first "" atoms [] []

-- charges of +3 to +1 and of -1 to -3
abbrev pub plus_charges : List (List ℤ)
plus_charges = charged (pos 3) ∷ charged (pos 2) ∷ charged (pos 1) ∷ []

abbrev pub minus_charges : List (List ℤ)
minus_charges = charged (negsuc 0) ∷ charged (negsuc 1) ∷ charged (negsuc 2) ∷ []

-- the codes from 0 to 7
abbrev pub codes : Reading
codes = atoms_only "codes" (carbon (pos 1) (pos 0) 0 0 ∷ (plus_charges ++ (carbon (pos 0) (pos 0) 2 0 ∷ minus_charges)))

-- the first atom is listed; the second loses its charge, the third its radical
abbrev pub unlisted : Reading
unlisted = atoms_only "unlisted" (charged (pos 1) ∷ charged (pos 0) ∷ charged (pos 0) ∷ [])

-- the first atom loses the charge of its code and its mass difference; the second loses its radical
abbrev pub superseded : Reading
superseded = atoms_only "superseded" (carbon (pos 0) (pos 0) 3 13 ∷ charged (pos 0) ∷ [])

-- one radical is listed: the first atom loses the charge of its code, the second the radical
abbrev pub uncharged : Reading
uncharged = atoms_only "uncharged" (carbon (pos 0) (pos 0) 1 0 ∷ charged (pos 0) ∷ [])

-- charges that codes have and one that they do not have, a radical alone, a radical beside a charge, a radical that codes do not have, an isotope
abbrev pub mixed : Reading
mixed =
    atoms_only "mixed" (
    plus_charges ++ (
    minus_charges ++ (
    charged (pos 4) ∷
    carbon (pos 0) (pos 0) 2 0 ∷
    carbon (pos 0) (pos 1) 2 0 ∷
    carbon (pos 0) (pos 0) 3 0 ∷
    carbon (pos 0) (pos 0) 0 13 ∷
    charged (negsuc 14) ∷ []))
    )

-- ---- The samples

-- a pair bonded twice, the second time the other way round
abbrev pub pair_twice : Sample
pair_twice =
    dead_molfile (
    "again" ∷ "" ∷ "" ∷
    "  3  2  0  0  0  0  0  0  0  0999 V2000" ∷
    "    0.0000    0.0000    0.0000 C   0  0  0  0  0  0  0  0  0  0  0  0" ∷
    "    0.0000    0.0000    0.0000 C   0  0  0  0  0  0  0  0  0  0  0  0" ∷
    "    0.0000    0.0000    0.0000 C   0  0  0  0  0  0  0  0  0  0  0  0" ∷
    "  1  2  1  0  0  0  0" ∷
    "  2  1  1  0  0  0  0" ∷ []
    )

-- charges, and one radical, by codes
abbrev pub codes_alone : Sample
codes_alone =
    molfile (
    "codes" ∷ "" ∷ "" ∷
    "  8  0  0  0  0  0  0  0  0  0999 V2000" ∷
    "    0.0000    0.0000    0.0000 C   1  0  0  0  0  0  0  0  0  0  0  0" ∷
    "    0.0000    0.0000    0.0000 C   0  1  0  0  0  0  0  0  0  0  0  0" ∷
    "    0.0000    0.0000    0.0000 C   0  2  0  0  0  0  0  0  0  0  0  0" ∷
    "    0.0000    0.0000    0.0000 C   0  3  0  0  0  0  0  0  0  0  0  0" ∷
    "    0.0000    0.0000    0.0000 C   0  4  0  0  0  0  0  0  0  0  0  0" ∷
    "    0.0000    0.0000    0.0000 C   0  5  0  0  0  0  0  0  0  0  0  0" ∷
    "    0.0000    0.0000    0.0000 C   0  6  0  0  0  0  0  0  0  0  0  0" ∷
    "    0.0000    0.0000    0.0000 C   0  7  0  0  0  0  0  0  0  0  0  0" ∷
    "M  END" ∷ []
    ) codes

-- codes that property lines make void
abbrev pub charges_listed : Sample
charges_listed =
    molfile (
    "unlisted" ∷ "" ∷ "" ∷
    "  3  0  0  0  0  0  0  0  0  0999 V2000" ∷
    "    0.0000    0.0000    0.0000 C   0  0  0  0  0  0  0  0  0  0  0  0" ∷
    "    0.0000    0.0000    0.0000 C   0  5  0  0  0  0  0  0  0  0  0  0" ∷
    "    0.0000    0.0000    0.0000 C   0  4  0  0  0  0  0  0  0  0  0  0" ∷
    "M  CHG  1   1   1" ∷
    "M  END" ∷ []
    ) unlisted

abbrev pub others_listed : Sample
others_listed =
    molfile (
    "superseded" ∷ "" ∷ "" ∷
    "  2  0  0  0  0  0  0  0  0  0999 V2000" ∷
    "    0.0000    0.0000    0.0000 C   1  3  0  0  0  0  0  0  0  0  0  0" ∷
    "    0.0000    0.0000    0.0000 C   0  4  0  0  0  0  0  0  0  0  0  0" ∷
    "M  RAD  1   1   3" ∷
    "M  ISO  1   1  13" ∷
    "M  END" ∷ []
    ) superseded

-- codes that a line of radicals alone makes void
abbrev pub radicals_listed : Sample
radicals_listed =
    molfile (
    "uncharged" ∷ "" ∷ "" ∷
    "  2  0  0  0  0  0  0  0  0  0999 V2000" ∷
    "    0.0000    0.0000    0.0000 C   0  5  0  0  0  0  0  0  0  0  0  0" ∷
    "    0.0000    0.0000    0.0000 C   0  4  0  0  0  0  0  0  0  0  0  0" ∷
    "M  RAD  1   1   1" ∷
    "M  END" ∷ []
    ) uncharged

-- a header where a value or the blank line must stand
abbrev pub header_as_value : Sample
header_as_value =
    dead_sdfile (
    "pure" ∷ "" ∷ "" ∷
    "  0  0  0  0  0  0  0  0  0  0999 V2000" ∷
    "M  END" ∷
    ">  <PURITY>" ∷
    ">  <LOT>" ∷ []
    )

-- the end of the record there
abbrev pub dollars_as_value : Sample
dollars_as_value =
    dead_sdfile (
    "pure" ∷ "" ∷ "" ∷
    "  0  0  0  0  0  0  0  0  0  0999 V2000" ∷
    "M  END" ∷
    ">  <PURITY>" ∷
    "$$$$" ∷ []
    )

-- codes and property lines as they are written: nine charges take two lines
abbrev pub mixed_written : Sample
mixed_written =
    written (mixed ∷ []) (
    "mixed" ∷ "" ∷ "" ∷
    " 12  0  0  0  0  0  0  0  0  0999 V2000" ∷
    "    0.0000    0.0000    0.0000 C   0  1  0  0  0  0  0  0  0  0  0  0" ∷
    "    0.0000    0.0000    0.0000 C   0  2  0  0  0  0  0  0  0  0  0  0" ∷
    "    0.0000    0.0000    0.0000 C   0  3  0  0  0  0  0  0  0  0  0  0" ∷
    "    0.0000    0.0000    0.0000 C   0  5  0  0  0  0  0  0  0  0  0  0" ∷
    "    0.0000    0.0000    0.0000 C   0  6  0  0  0  0  0  0  0  0  0  0" ∷
    "    0.0000    0.0000    0.0000 C   0  7  0  0  0  0  0  0  0  0  0  0" ∷
    "    0.0000    0.0000    0.0000 C   0  0  0  0  0  0  0  0  0  0  0  0" ∷
    "    0.0000    0.0000    0.0000 C   0  4  0  0  0  0  0  0  0  0  0  0" ∷
    "    0.0000    0.0000    0.0000 C   0  0  0  0  0  0  0  0  0  0  0  0" ∷
    "    0.0000    0.0000    0.0000 C   0  0  0  0  0  0  0  0  0  0  0  0" ∷
    "    0.0000    0.0000    0.0000 C   0  0  0  0  0  0  0  0  0  0  0  0" ∷
    "    0.0000    0.0000    0.0000 C   0  0  0  0  0  0  0  0  0  0  0  0" ∷
    "M  CHG  8   1   3   2   2   3   1   4  -1   5  -2   6  -3   7   4   9   1" ∷
    "M  CHG  1  12 -15" ∷
    "M  RAD  3   8   2   9   2  10   3" ∷
    "M  ISO  1  11  13" ∷
    "M  END" ∷
    "$$$$" ∷ []
    )

-- ---- The table

abbrev pub samples : List Sample
samples =
    pair_twice ∷
    codes_alone ∷
    charges_listed ∷
    others_listed ∷
    radicals_listed ∷
    header_as_value ∷
    dollars_as_value ∷
    mixed_written ∷ []
