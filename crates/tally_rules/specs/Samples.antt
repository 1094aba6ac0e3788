-- Small lists and what is added to them: one table for the names, one for the steps, one for a report.
use Rattle.std.specs.Prelude.{ℕ, ◌≡◌, refl, [], ◌∷◌, ◌++◌, replicate}
use Rattle.text.specs.Text.{LF, bytes}
use Rattle.field_numbers.specs.Write.{text_by}
use Rattle.tally_rules.specs.declared.Order.{Order}
use Rattle.tally_rules.specs.declared.Tally.{Tally}
use Rattle.tally_rules.specs.Tally.{order, added, Supplier}
use Rattle.tally_rules.specs.Book.{Book, Step, record_on}
use Rattle.tally_rules.specs.Report.{supplier_lines, report_of}

-- 00417 and 417 never meet; a name comes before those that it begins; capitals before small letters
pub orders : order (bytes "00417") (bytes "417") ∷ order (bytes "AB") (bytes "ABC") ∷ order (bytes "B") (bytes "AZZZ") ∷ order (bytes "ab") (bytes "AB") ∷ order (bytes "AB") (bytes "AB") ∷ [] ≡
    Order.Before ∷ Order.Before ∷ Order.After ∷ Order.After ∷ Order.Same ∷ []
unfolding order
orders = refl

abbrev two : Book
two = record { tallies = added (bytes "AB") (added (bytes "AB") []); missing = 0; total = 2 }

-- two records from AB
pub two_report : report_of two ≡ bytes "     2 AB" ++ (LF ∷ (bytes "     0 missing" ++ (LF ∷ (bytes "     2 total" ++ (LF ∷ [])))))
unfolding order added supplier_lines report_of text_by
two_report = refl

abbrev tally : ℕ → ℕ → Tally
tally k count = record { name = replicate 24 k; length = 24; count = count }

abbrev full : ℕ → Book
full total = record { tallies = replicate 64 (tally 65 1); missing = 0; total = total }

-- at one record 25, then 23, then 24; with room for none more a supplier that is there, or a record without one, still counts
pub steps :
    record_on (Supplier.named (replicate 25 66)) (full 999999) ∷ record_on (Supplier.named (replicate 25 66)) (full 999998) ∷ record_on (Supplier.named (bytes "B")) (full 999998)
    ∷ record_on Supplier.missing (full 999999) ∷ record_on Supplier.missing (full 999998) ∷ record_on (Supplier.named (replicate 24 65)) (full 64) ∷ [] ≡
    Step.refused 25 ∷ Step.refused 23 ∷ Step.refused 24
    ∷ Step.refused 25 ∷ Step.counted (record { tallies = replicate 64 (tally 65 1); missing = 1; total = 999999 })
    ∷ Step.counted (record { tallies = tally 65 2 ∷ replicate 63 (tally 65 1); missing = 0; total = 65 }) ∷ []
unfolding order added record_on
steps = refl
