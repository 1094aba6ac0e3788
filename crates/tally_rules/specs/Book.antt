-- The report's figures, and a file's records added to them: all of them, or a refusal and none.
use Rattle.std.specs.Prelude.{ℕ, ◌+◌, ◌≤◌, ◌≡◌, List, [], ◌∷◌, cond, ltb, leb, length}
use Rattle.text.specs.Text.{Bytes}
use Rattle.rules.specs.Record.{Raw}
use Rattle.tally_rules.specs.declared.Tally.{Tally}
use Rattle.tally_rules.specs.Tally.{most_suppliers, longest, most_records, added, Supplier, missing, named, supplier_of, Rising, Short, sum_of}

pub record Book : Type 0 where
  pub tallies : List Tally
  pub missing : ℕ
  pub total : ℕ

-- a list that is none of these is refused: number 2
pub record Good (b : Book) : Type 0 where
  pub few : length b.tallies ≤ most_suppliers
  pub short : Short b.tallies
  pub rising : Rising b.tallies
  pub adds : sum_of b.tallies + b.missing ≡ b.total
  pub most : b.total ≤ most_records

-- ---- One record: 25 a 1,000,000th, then 23 a name that is too long, then 24 a 65th supplier

pub data Step : Type 0 where
  counted : Book → Step
  refused : ℕ → Step

abbrev pub with_name : Bytes → Book → Step
with_name n b =
    cond (ltb longest (length n)) (Step.refused 23)
    (cond (ltb most_suppliers (length (added n b.tallies))) (Step.refused 24)
    (Step.counted (record { tallies = added n b.tallies; missing = b.missing; total = b.total + 1 })))

abbrev pub by_supplier : Supplier → Book → Step
by_supplier missing b = Step.counted (record { tallies = b.tallies; missing = b.missing + 1; total = b.total + 1 })
by_supplier (named n) b = with_name n b

unfoldable pub record_on : Supplier → Book → Step
record_on s b = cond (leb most_records b.total) (Step.refused 25) (by_supplier s b)

-- ---- The records of a file, of which k are counted

pub data Outcome : Type 0 where
  whole : Book → Outcome
  stopped : ℕ → ℕ → Outcome  -- number, and the record that met it, from 1

unfoldable pub tally_from : ℕ → Book → List Raw → Outcome
tally_from k b [] = Outcome.whole b
tally_from k b (x ∷ xs) = elim (record_on (supplier_of x) b) [
  | Step.counted d ↦ tally_from (k + 1) d xs
  | Step.refused e ↦ Outcome.stopped e (k + 1)
]

abbrev pub tallied : Book → List Raw → Outcome
tallied b xs = tally_from 0 b xs
