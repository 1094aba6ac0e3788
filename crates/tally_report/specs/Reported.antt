-- What a report leaves in the room lent for it.
use Rattle.std.specs.Prelude.{ℕ, ◌+◌, ◌*◌, ◌≤◌, ◌<◌, ◌≡◌, List, ◌++◌, length, get_or}
use Rattle.std.proofs.lemmas.List.Edits.{sets}
use Rattle.text.specs.Text.{Bytes, bytes}
use Rattle.tally_rules.specs.declared.Totals.{Totals}
use Rattle.tally_rules.specs.Tally.{most_suppliers, longest}
use Rattle.tally_rules.specs.Book.{Good}
use Rattle.tally_rules.specs.Report.{report_line, report_of}
use Rattle.tally_flat.specs.Flat.{Memory, Sized}
use Rattle.tally_good.specs.Judge.{book_of}

abbrev pub total_lines : ℕ → ℕ → Bytes
total_lines missing total = report_line missing (bytes "missing") ++ report_line total (bytes "total")

-- room for so many lines
pub record Lines (m : Memory) (used size : ℕ) : Type 0 where
  pub sized : Sized m
  pub few : used ≤ most_suppliers
  pub short : (i : ℕ) → i < used → get_or m.lengths i 0 ≤ longest
  pub room : 2048 ≤ size

-- what a list has to be
pub record ReportReady (m : Memory) (t : Totals) (size : ℕ) : Type 0 where
  pub sized : Sized m
  pub good : Good (book_of m t)
  pub room : 2076 ≤ size

-- the room was r₀, n is the answer, and it is then r
pub record Reported (m : Memory) (t : Totals) (r₀ : Bytes) (n : ℕ) (r : Bytes) : Type 0 where
  pub text : ReportReady m t (length r₀) → (n ≡ length (report_of (book_of m t))) × (r ≡ sets r₀ 0 (report_of (book_of m t)))
  pub nothing : ¬ ReportReady m t (length r₀) → (n ≡ 0) × (r ≡ r₀)
