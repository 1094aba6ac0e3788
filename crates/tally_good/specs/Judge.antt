-- The test of a list, part by part.
use Rattle.std.specs.Prelude.{ℕ, zero, suc, ◌+◌, List, [], ◌∷◌, Bool, true, false, cond, eqb, ltb, length, get_or}
use Rattle.text.specs.Text.{Bytes}
use Rattle.tally_rules.specs.declared.Order.{Order}
use Rattle.tally_rules.specs.declared.Tally.{Tally}
use Rattle.tally_rules.specs.declared.Totals.{Totals}
use Rattle.tally_rules.specs.Tally.{most_suppliers, longest, most_records, order, sum_of}
use Rattle.tally_rules.specs.Book.{Book}
use Rattle.tally_flat.specs.Flat.{Memory, tallies_from, names_from}
use Rattle.tally_flat.specs.Slots.{names_of}

-- the tallies in use, and the totals beside them
abbrev pub book_of : Memory → Totals → Book
book_of m t = record { tallies = tallies_from m 0 t.entries; missing = t.missing; total = t.total }

abbrev pub is_before : Order → Bool
is_before Order.Before = true
is_before Order.Same = false
is_before Order.After = false

unfoldable pub rising_names : List Bytes → Bool
rising_names [] = true
rising_names (a ∷ []) = true
rising_names (a ∷ b ∷ ms) = cond (is_before (order a b)) (rising_names (b ∷ ms)) false

unfoldable pub short_names : List Tally → Bool
short_names [] = true
short_names (t ∷ ts) = cond (ltb longest t.length) false (short_names ts)

unfoldable pub good_book : Book → Bool
good_book b =
    cond (ltb most_records b.total) false
    (cond (ltb most_suppliers (length b.tallies)) false
    (cond (short_names b.tallies) (cond (rising_names (names_of b.tallies)) (eqb (sum_of b.tallies + b.missing) b.total) false) false))

-- ---- In flat memory

unfoldable pub short_from : List ℕ → ℕ → ℕ → Bool
short_from ls i zero = true
short_from ls i (suc k) = cond (ltb longest (get_or ls i 0)) false (short_from ls (i + 1) k)

unfoldable pub sum_from : List ℕ → ℕ → ℕ → ℕ
sum_from cs i zero = 0
sum_from cs i (suc k) = get_or cs i 0 + sum_from cs (i + 1) k

unfoldable pub names_good : Memory → Totals → Bool
names_good m t = cond (rising_names (names_from m.names m.lengths 0 t.entries)) (eqb (sum_from m.counts 0 t.entries + t.missing) t.total) false
