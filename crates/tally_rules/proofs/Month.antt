-- Many files, one after the other: the total is that of the records in the accepted ones, and a refused one leaves the list as it was.
use Rattle.std.specs.Prelude.{◌+◌, ◌≡◌, refl, List, [], ◌∷◌}
use Rattle.std.proofs.Common.{arith}
use Rattle.tally_rules.specs.Book.{Book, Good, Outcome, whole, stopped, tallied}
use Rattle.tally_rules.proofs.Kept.{total_is}
use Rattle.tally_rules.specs.Month.{File, after_by, after_file, adds_by, adds, after_files, adds_all}

file_total : (b : Book) (f : File) → (after_file b f).total ≡ b.total + adds b f
file_total b File.bad = omega arith
file_total b (File.good xs) = go (tallied b xs) refl
  where
    go : (o : Outcome) → tallied b xs ≡ o → (after_by b o).total ≡ b.total + adds_by xs o
    go (whole d) e = (total_is 0 b d xs e).total
    go (stopped e k) q = omega arith

file_good : (b : Book) (f : File) → Good b → Good (after_file b f)
file_good b File.bad g = g
file_good b (File.good xs) g = go (tallied b xs) refl
  where
    go : (o : Outcome) → tallied b xs ≡ o → Good (after_by b o)
    go (whole d) e = (total_is 0 b d xs e).good g
    go (stopped e k) q = g

pub month_total : (b : Book) (fs : List File) → (after_files b fs).total ≡ b.total + adds_all b fs
unfolding after_files adds_all
month_total b [] = omega arith
month_total b (f ∷ fs) = omega (arith, file_total b f, month_total (after_file b f) fs)

pub month_good : (b : Book) (fs : List File) → Good b → Good (after_files b fs)
unfolding after_files
month_good b [] g = g
month_good b (f ∷ fs) g = month_good (after_file b f) fs (file_good b f g)
