-- Many files, one after the other: the total is that of the records in the accepted ones, and a refused one leaves the list as it was.
use Rattle.std.specs.Prelude.{ℕ, ◌+◌, ◌≡◌, List, [], ◌∷◌, length}
use Rattle.std.proofs.Common.{ap}
use Rattle.rules.specs.Record.{Raw}
use Rattle.tally_rules.specs.Book.{Book, Outcome, whole, stopped, tallied}

-- a file that is not good, or one with these records
pub data File : Type 0 where
  bad : File
  good : List Raw → File

abbrev pub after_by : Book → Outcome → Book
after_by b (whole d) = d
after_by b (stopped e k) = b

abbrev pub after_file : Book → File → Book
after_file b File.bad = b
after_file b (File.good xs) = after_by b (tallied b xs)

-- the records that a file adds
abbrev pub adds_by : List Raw → Outcome → ℕ
adds_by xs (whole d) = length xs
adds_by xs (stopped e k) = 0

abbrev pub adds : Book → File → ℕ
adds b File.bad = 0
adds b (File.good xs) = adds_by xs (tallied b xs)

unfoldable pub after_files : Book → List File → Book
after_files b [] = b
after_files b (f ∷ fs) = after_files (after_file b f) fs

unfoldable pub adds_all : Book → List File → ℕ
adds_all b [] = 0
adds_all b (f ∷ fs) = adds b f + adds_all (after_file b f) fs

pub refused_adds_nothing : (b : Book) (xs : List Raw) (e k : ℕ) → tallied b xs ≡ stopped e k → (after_file b (File.good xs) ≡ b) × (adds b (File.good xs) ≡ 0)
refused_adds_nothing b xs e k h = (ap (after_by b) h, ap (adds_by xs) h)
