-- Which tables can be written: computed, part by part.
use Rattle.std.specs.Prelude.{ℕ, zero, suc, ◌-◌, ◌*◌, List, [], ◌∷◌, Bool, true, false, cond, ◌&&◌, ◌||◌, leb, get_or, ℤ, pos}
use Rattle.rules.specs.Record.{limit}
use Rattle.rules.specs.Canon.{atom_row, BondRow, bond_row, is_zero}
use Rattle.judge_line.specs.Field.{same_integer}
use Rattle.rules.specs.Rows.{row_at, rows_of}
use Rattle.writer_row.specs.Row.{atom_holds, bond_holds}
use Rattle.writer_tables.specs.declared.Repeat.{Repeat}
use Rattle.writer_tables.specs.declared.Repeat.TheVariants.{Pair, Nothing}

-- ---- All rows

unfoldable pub all_rows : (List ℤ → Bool) → List (List ℤ) → Bool
all_rows p [] = true
all_rows p (t ∷ ts) = p t && all_rows p ts

abbrev pub atoms_hold : ℕ → List (List ℤ) → Bool
atoms_hold n ts = all_rows (λ t. atom_holds n (atom_row t)) ts

abbrev pub bonds_hold : ℕ → List (List ℤ) → Bool
bonds_hold n ts = all_rows (λ t. bond_holds n (bond_row t)) ts

-- the number at k is 0 in every row
abbrev pub all_zero : ℕ → List (List ℤ) → Bool
all_zero k ts = all_rows (λ t. is_zero (get_or t k (pos 0))) ts

-- no isotope, or no mass difference
unfoldable pub masses_hold : List (List ℤ) → Bool
masses_hold ts = all_zero 7 ts || all_zero 4 ts

-- ---- The first bond that joins a pair once more

-- the same two ends, in either direction
unfoldable pub same_ends : BondRow → BondRow → Bool
same_ends b c =
    (same_integer b.first c.first && same_integer b.second c.second) ||
    (same_integer b.first c.second && same_integer b.second c.first)

-- rows i and j of a table of bonds
unfoldable pub same_at : List ℤ → ℕ → ℕ → Bool
same_at t i j = same_ends (bond_row (row_at 6 t i)) (bond_row (row_at 6 t j))

-- row i is held against so many rows, row j first; if none of them joins its pair, `next`. Bonds count from 1.
unfoldable pub against : List ℤ → ℕ → ℕ → ℕ → Repeat → Repeat
against t i j zero next = next
against t i j (suc count) next = cond (same_at t i j) (Pair (suc j) (suc i)) (against t i (suc j) count next)

-- so many rows, row i first, each held against all rows before it
unfoldable pub walk_from : List ℤ → ℕ → ℕ → Repeat
walk_from t i zero = Nothing
walk_from t i (suc count) = against t i 0 i (walk_from t (suc i) count)

-- the first bond that joins the pair of an earlier one, with the first such
abbrev pub first_repeat : List ℤ → ℕ → Repeat
first_repeat t m = walk_from t 0 m

abbrev pub is_nothing : Repeat → Bool
is_nothing (Pair earlier later) = false
is_nothing Nothing = true

-- ---- Tables

-- n, m, pairs enough for m bonds, chiral
unfoldable pub counts_hold : ℕ → ℕ → ℕ → Bool
counts_hold n m chiral = leb n limit && (leb m limit && (leb (2 * m) (n * (n - 1)) && leb chiral 1))

-- the first n atoms and the first m bonds: ranges, bond rules, no pair twice, masses
unfoldable pub tables_hold : ℕ → ℕ → List ℤ → List ℤ → Bool
tables_hold n m atoms bonds =
    atoms_hold n (rows_of 16 n atoms) &&
    (bonds_hold n (rows_of 6 m bonds) &&
    (is_nothing (first_repeat bonds m) &&
    masses_hold (rows_of 16 n atoms)))

unfoldable pub writable_tables : ℕ → ℕ → ℕ → List ℤ → List ℤ → Bool
writable_tables n m chiral atoms bonds = counts_hold n m chiral && tables_hold n m atoms bonds
