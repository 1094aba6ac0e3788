-- A file's records added to a good list leave a good list, which has each of them once: under its supplier, or as missing.
use Rattle.std.specs.Prelude.{ℕ, ◌+◌, ◌≤◌, ◌≡◌, List, [], ◌∷◌, cond, length}
use Rattle.text.specs.Text.{Bytes}
use Rattle.text.specs.Find.{same_bytes}
use Rattle.rules.specs.Record.{Raw}
use Rattle.tally_rules.specs.Tally.{Supplier, missing, named, supplier_of}
use Rattle.tally_rules.specs.Book.{Book, Good, counted, refused, record_on, stopped, tally_from}
use Rattle.tally_rules.specs.Counts.{count_of}

-- ---- One record

-- of one supplier, and of none
abbrev pub sent_one : Bytes → Supplier → ℕ
sent_one m missing = 0
sent_one m (named n) = cond (same_bytes n m) 1 0

abbrev pub lacks_one : Supplier → ℕ
lacks_one missing = 1
lacks_one (named n) = 0

-- what one record more does to the figures
pub record OneMore (s : Supplier) (b d : Book) : Type 0 where
  pub total : d.total ≡ b.total + 1
  pub lacking : d.missing ≡ b.missing + lacks_one s
  pub each : (m : Bytes) → count_of m d.tallies ≡ count_of m b.tallies + sent_one m s
  pub grows : length b.tallies ≤ length d.tallies
  pub good : Good b → Good d

-- ---- A file

unfoldable pub sent_by : Bytes → List Raw → ℕ
sent_by m [] = 0
sent_by m (x ∷ xs) = sent_one m (supplier_of x) + sent_by m xs

unfoldable pub lacking_in : List Raw → ℕ
lacking_in [] = 0
lacking_in (x ∷ xs) = lacks_one (supplier_of x) + lacking_in xs

pub record Counted (xs : List Raw) (b d : Book) : Type 0 where
  pub total : d.total ≡ b.total + length xs
  pub lacking : d.missing ≡ b.missing + lacking_in xs
  pub each : (m : Bytes) → count_of m d.tallies ≡ count_of m b.tallies + sent_by m xs
  pub grows : length b.tallies ≤ length d.tallies
  pub good : Good b → Good d

-- the step of a file's first record, and the rest of the file
pub tally_next : (k : ℕ) (b d : Book) (x : Raw) (xs : List Raw) → record_on (supplier_of x) b ≡ counted d → tally_from k b (x ∷ xs) ≡ tally_from (k + 1) d xs
unfolding tally_from
tally_next k b d x xs h = rw (h, tally_from)

pub tally_stop : (k : ℕ) (b : Book) (e : ℕ) (x : Raw) (xs : List Raw) → record_on (supplier_of x) b ≡ refused e → tally_from k b (x ∷ xs) ≡ stopped e (k + 1)
unfolding tally_from
tally_stop k b e x xs h = rw (h, tally_from)
