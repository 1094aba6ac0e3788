-- Files compared, as one table: what is listed, row by row.
use Rattle.std.specs.Prelude.{ℕ, ◌≡◌, refl, List, [], ◌∷◌, map, ℤ, pos, negsuc}
use Prim.Native.String.{String}
use Rattle.text.specs.Text.{bytes}
use Rattle.text.specs.Find.{same_bytes}
use Rattle.rules.specs.Record.{Item}
use Rattle.rules.specs.Meaning.{Reading}
use Rattle.rules.specs.Samples.{atom, carbon, bond, reading}
use Rattle.compare_rules.specs.Along.{along}
use Rattle.compare_rules.specs.Differences.{row, figures, texts, headers_apart, counts_apart, records_apart, differences_of}

-- two files, and the rows listed: record, part, place, field, side, left, right
pub record Sample : Type 0 where
  pub old : List Reading
  pub new : List Reading
  pub listed : List (List ℤ)

abbrev listed_in : Sample → List (List ℤ)
listed_in s = map row (differences_of s.old s.new)

abbrev listed_of : Sample → List (List ℤ)
listed_of s = s.listed

abbrev entry : ℕ → ℕ → ℕ → ℕ → ℕ → ℤ → ℤ → List ℤ
entry r part i j side x y = pos r ∷ pos part ∷ pos i ∷ pos j ∷ pos side ∷ x ∷ y ∷ []

abbrev text : ℕ → ℕ → ℕ → ℕ → ℕ → List ℤ
text r part i j side = entry r part i j side (pos 0) (pos 0)

abbrev item : String → List String → Item
item name values = record { name = bytes name; values = map bytes values }

-- a drum of two atoms, with the charge of the second and its items
abbrev drum_with : ℤ → List Item → Reading
drum_with charge items =
    reading "AB-00417" "drum 3" (atom (pos 0) (pos 0) 6 (pos 0) ∷ atom (pos 12500) (negsuc 8249) 8 charge ∷ []) (bond 1 2 ∷ []) items

abbrev drum : Reading
drum = drum_with (negsuc 0) (item "LOT" ("00417" ∷ []) ∷ [])

abbrev ring : Reading
ring =
    reading "ring" "" (carbon (pos 0) (pos 0) 0 0 ∷ carbon (pos 0) (pos 0) 0 0 ∷ carbon (pos 0) (pos 0) 0 0 ∷ [])
    (bond 1 2 ∷ bond 2 3 ∷ bond 3 1 ∷ []) []

abbrev pub samples : List Sample
samples =
    record { old = []; new = []; listed = [] } ∷
    record { old = drum ∷ ring ∷ []; new = drum ∷ ring ∷ []; listed = [] } ∷
    -- a code loses its zeros: one entry
    record { old = drum ∷ []; new = drum_with (negsuc 0) (item "LOT" ("417" ∷ []) ∷ []) ∷ []; listed = text 1 8 1 1 0 ∷ [] } ∷
    record { old = drum_with (negsuc 0) (item "LOT" ("417" ∷ []) ∷ []) ∷ []; new = drum ∷ []; listed = text 1 8 1 1 0 ∷ [] } ∷
    -- a charge, in the second record
    record {
      old = ring ∷ drum ∷ [];
      new = ring ∷ drum_with (pos 0) (item "LOT" ("00417" ∷ []) ∷ []) ∷ [];
      listed = entry 2 5 2 6 0 (negsuc 0) (pos 0) ∷ [];
    } ∷
    record {
      old = ring ∷ drum_with (pos 0) (item "LOT" ("00417" ∷ []) ∷ []) ∷ [];
      new = ring ∷ drum ∷ [];
      listed = entry 2 5 2 6 0 (pos 0) (negsuc 0) ∷ [];
    } ∷
    -- a record on one side
    record { old = drum ∷ ring ∷ []; new = drum ∷ []; listed = text 2 10 0 0 1 ∷ [] } ∷
    record { old = []; new = drum ∷ ring ∷ []; listed = text 1 10 0 0 2 ∷ text 2 10 0 0 2 ∷ [] } ∷
    -- an item on one side, whatever it holds; a value line on one side
    record {
      old = drum ∷ [];
      new = drum_with (negsuc 0) (item "LOT" ("00417" ∷ []) ∷ item "NOTE" ("a" ∷ "b" ∷ "c" ∷ []) ∷ []) ∷ [];
      listed = text 1 9 2 0 2 ∷ [];
    } ∷
    record { old = drum_with (negsuc 0) (item "LOT" ("00417" ∷ "x" ∷ "y" ∷ []) ∷ []) ∷ []; new = drum ∷ []; listed = text 1 8 1 2 1 ∷ text 1 8 1 3 1 ∷ [] } ∷
    -- names differ, and so do values
    record { old = drum ∷ []; new = drum_with (negsuc 0) (item "BATCH" ("417" ∷ []) ∷ []) ∷ []; listed = text 1 7 1 0 0 ∷ text 1 8 1 1 0 ∷ [] } ∷
    -- header lines and counts; atoms and bonds up to the smaller count
    record {
      old = drum ∷ [];
      new = ring ∷ [];
      listed =
          text 1 1 1 0 0 ∷ text 1 1 3 0 0 ∷
          entry 1 2 0 0 0 (pos 2) (pos 3) ∷ entry 1 3 0 0 0 (pos 1) (pos 3) ∷
          entry 1 5 2 1 0 (pos 12500) (pos 0) ∷ entry 1 5 2 2 0 (negsuc 8249) (pos 0) ∷
          entry 1 5 2 4 0 (pos 8) (pos 6) ∷ entry 1 5 2 6 0 (negsuc 0) (pos 0) ∷
          text 1 9 1 0 1 ∷ [];
    } ∷ []

pub samples_hold : map listed_in samples ≡ map listed_of samples
unfolding differences_of along records_apart headers_apart counts_apart figures texts same_bytes
samples_hold = refl
