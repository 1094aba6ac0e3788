-- The promise, in the words of the rules.
use Rattle.std.specs.Prelude.{ℕ, ◌≤◌, ◌≡◌, List, ◌++◌, length, take, drop}
use Rattle.text.specs.Text.{Bytes}
use Rattle.rules.specs.Record.{Raw, GoodSDfile}
use Rattle.judge_file.specs.Verdict.{Verdict}
use Rattle.reader_walk.specs.Promise.{CheckedAs}
use Rattle.tally_rules.specs.declared.Totals.{Totals}
use Rattle.tally_rules.specs.Tally.{most_suppliers}
use Rattle.tally_rules.specs.Book.{Book, Good, tallied}
use Rattle.tally_rules.specs.Book as B
use Rattle.tally_flat.specs.Flat.{Memory, memory, name_bytes, tallies_in, laid}
use Rattle.tally_good.specs.Judge.{book_of}
use Rattle.tally_file.specs.Count.{Said, added, refused, told_of}
use Rattle.tally_file.specs.declared.Tallied.{Tallied}

-- room for 64 tallies
pub record Roomy (m : Memory) : Type 0 where
  pub names : name_bytes ≤ length m.names
  pub lengths : most_suppliers ≤ length m.lengths
  pub counts : most_suppliers ≤ length m.counts

-- that of 64 tallies
abbrev pub front : Memory → Memory
front m = memory (take name_bytes m.names) (take most_suppliers m.lengths) (take most_suppliers m.counts)

-- the first n of one over those of the other
abbrev pub over : ℕ → List ℕ → List ℕ → List ℕ
over n xs ys = take n xs ++ drop n ys

-- ---- What is said of a file

pub data Tells (s : Bytes) (b : Book) : Said → Type 0 where
  bad_file : {e i column : ℕ} → CheckedAs 1 s (Verdict.refused e i column) → Tells s b (refused e i column 0)
  whole : {xs : List Raw} {d : Book} → GoodSDfile s xs → tallied b xs ≡ B.whole d → Tells s b (added (length xs) d)
  stopped : {xs : List Raw} {e k : ℕ} → GoodSDfile s xs → tallied b xs ≡ B.stopped e k → Tells s b (refused e 0 0 k)

-- ---- What memory holds then

-- the tallies of the book stand over the first, and nothing else changes
pub record LaidOver (d : Book) (m m' : Memory) : Type 0 where
  pub tallies : tallies_in (front m') ≡ laid d.tallies (tallies_in (front m))
  pub names_size : length m'.names ≡ length m.names
  pub lengths_size : length m'.lengths ≡ length m.lengths
  pub counts_size : length m'.counts ≡ length m.counts
  pub names_past : drop name_bytes m'.names ≡ drop name_bytes m.names
  pub lengths_past : drop most_suppliers m'.lengths ≡ drop most_suppliers m.lengths
  pub counts_past : drop most_suppliers m'.counts ≡ drop most_suppliers m.counts

abbrev pub LeftOver : Said → Memory → Memory → Type 0
LeftOver (added k d) m m' = LaidOver d m m'
LeftOver (refused e i column k) m m' = m' ≡ m

-- list m was lent with totals t, r is the answer, and it is then m'
pub record TallyPromise (s : Bytes) (m : Memory) (t : Totals) (r : Tallied) (m' : Memory) : Type 0 where
  pub no_list : ¬ (Roomy m × Good (book_of (front m) t)) → (r ≡ Tallied.Refused 2 0 0 0) × (m' ≡ m)
  pub tells : Roomy m → Good (book_of (front m) t) → (w : Said) × Tells s (book_of (front m) t) w × (r ≡ told_of w) × LeftOver w m m'
