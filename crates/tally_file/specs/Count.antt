-- What is answered of a record and of a file, and what memory then holds.
use Rattle.std.specs.Prelude.{ℕ, ◌<◌, ◌≡◌, List, Bool, cond, length}
use Rattle.text.specs.Text.{Bytes}
use Rattle.rules.specs.Record.{Raw, limit}
use Rattle.judge_file.specs.Place.{sdfile}
use Rattle.judge_file.specs.Verdict.{Verdict, verdict}
use Rattle.judge_file.specs.WalkText.{after_lines}
use Rattle.reader_walk.specs.Outcome as O
use Rattle.reader_walk.specs.Outcome.{outcome_of}
use Rattle.reader_cursor.specs.declared.Cursor.{Cursor}
use Rattle.reader_cursor.specs.Walk.{past, Countable}
use Rattle.tally_rules.specs.declared.Tally.{Tally}
use Rattle.tally_rules.specs.declared.Totals.{Totals}
use Rattle.tally_rules.specs.Tally.{most_records, Supplier, supplier_of}
use Rattle.tally_rules.specs.Book.{Book, Good, Outcome, tallied}
use Rattle.tally_rules.specs.Book as B
use Rattle.tally_flat.specs.Flat.{Memory, Sized, tallies_in, laid}
use Rattle.tally_good.specs.Judge.{book_of, good_book}
use Rattle.tally_file.specs.declared.Step.{Step}
use Rattle.tally_file.specs.declared.Tallied.{Tallied}

-- ---- One record

-- a good list with a total below the limit
pub record CountReady (m : Memory) (t : Totals) : Type 0 where
  pub sized : Sized m
  pub good : Good (book_of m t)
  pub below : t.total < most_records

pub record ListReady (m : Memory) (t : Totals) : Type 0 where
  pub sized : Sized m
  pub good : Good (book_of m t)

abbrev pub totals_of : Book → Totals
totals_of b = record { entries = length b.tallies; missing = b.missing; total = b.total }

abbrev pub step_of : B.Step → Step
step_of (B.counted d) = Step.Counted (totals_of d)
step_of (B.refused e) = Step.Refused e

-- the tallies of the book over the first; after a refusal as they were
abbrev pub laid_step : B.Step → List Tally → List Tally
laid_step (B.counted d) all = laid d.tallies all
laid_step (B.refused e) all = all

pub record Stepped (p : B.Step) (m m' : Memory) : Type 0 where
  pub sized : Sized m'
  pub tallies : tallies_in m' ≡ laid_step p (tallies_in m)

-- the supplier of the record that the text begins with
abbrev pub supplier_by : O.Outcome → Supplier
supplier_by (O.whole x k) = supplier_of x
supplier_by (O.refused e i column) = Supplier.missing

unfoldable pub supplier_at : Bytes → Supplier
supplier_at s = supplier_by (outcome_of sdfile s)

-- ---- A file

pub data Said : Type 0 where
  added : ℕ → Book → Said  -- so many records, and the book with them
  refused : ℕ → ℕ → ℕ → ℕ → Said  -- number, line, column, record

abbrev pub by_outcome : ℕ → Outcome → Said
by_outcome k (B.whole d) = added k d
by_outcome k (B.stopped e i) = refused e 0 0 i

abbrev pub by_verdict : Book → Verdict (List Raw) → Said
by_verdict b (Verdict.accepted xs) = by_outcome (length xs) (tallied b xs)
by_verdict b (Verdict.refused e i column) = refused e i column 0

-- the file is judged first
unfoldable pub said_of : Bytes → Book → Said
said_of s b = by_verdict b (verdict sdfile limit s)

abbrev pub told_of : Said → Tallied
told_of (added k d) = Tallied.Done k (totals_of d)
told_of (refused e i column k) = Tallied.Refused e i column k

abbrev pub is_done : Tallied → Bool
is_done (Tallied.Done k t) = Bool.true
is_done (Tallied.Refused e i column k) = Bool.false

-- a list that is not good is refused before the file
unfoldable pub answer_of : Bytes → Memory → Totals → Tallied
answer_of s m t = cond (good_book (book_of m t)) (told_of (said_of s (book_of m t))) (Tallied.Refused 2 0 0 0)

-- where all records are added, the tallies of the book stand over the first
pub record Left (w : Said) (m m' : Memory) : Type 0 where
  pub sized : Sized m'
  pub tallies : (k : ℕ) (d : Book) → w ≡ added k d → tallies_in m' ≡ laid d.tallies (tallies_in m)

-- the same for any list: one that is not good is not counted into
pub record LeftList (s : Bytes) (m : Memory) (t : Totals) (m' : Memory) : Type 0 where
  pub sized : Sized m'
  pub left : good_book (book_of m t) ≡ Bool.true → Left (said_of s (book_of m t)) m m'

-- ---- The walk over a good file

pub record FileReady (s : Bytes) (m : Memory) (t : Totals) : Type 0 where
  pub sized : Sized m
  pub good : Good (book_of m t)
  pub zs : List Raw
  pub is : verdict sdfile limit s ≡ Verdict.accepted zs

-- past the record that the text begins with
abbrev pub past_by : Cursor → Bytes → O.Outcome → Cursor
past_by c t (O.whole x k) = past c (after_lines t 0 k) k
past_by c t (O.refused e i column) = c

unfoldable pub past_record : Cursor → Bytes → Cursor
past_record c t = past_by c t (outcome_of sdfile t)

pub record PastReady (c : Cursor) (t : Bytes) : Type 0 where
  pub fits : (x : Raw) (k : ℕ) → outcome_of sdfile t ≡ O.whole x k → Countable c (after_lines t 0 k) k
