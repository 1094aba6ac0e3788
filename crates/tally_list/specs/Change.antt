-- What a record more changes in a list of tallies, at the place where the search for its name has ended.
use Rattle.std.specs.Prelude.{ℕ, ◌+◌, ◌≤◌, ◌<◌, List, Bool, true, false, cond, ltb, leb, length, get_or}
use Rattle.text.specs.Text.{Bytes}
use Rattle.tally_rules.specs.declared.Order.{Order}
use Rattle.tally_rules.specs.declared.Tally.{Tally}
use Rattle.tally_rules.specs.Tally.{most_suppliers, longest, most_records, order, name_of, fresh, one_more}
use Rattle.tally_flat.specs.declared.Added.{Added}
use Rattle.tally_flat.specs.Slots.{no_tally}
use Rattle.tally_list.specs.declared.Change.{Change}

abbrev pub same_as : Order → Bool
same_as Order.Before = false
same_as Order.Same = true
same_as Order.After = false

-- the place, or the last that a list has
unfoldable pub within : ℕ → ℕ
within at = cond (ltb at most_suppliers) at 63

-- the tally at the place is in use and has the name
unfoldable pub is_here : Tally → ℕ → ℕ → Bytes → Bool
is_here t at used n = cond (leb used at) false (same_as (order (name_of t) n))

abbrev pub here : Tally → ℕ → ℕ → Change
here t at used = record { end = at; tally = one_more t; now = Added.Now used }

-- the tally at the place stays
abbrev pub full : Tally → ℕ → Change
full t at = record { end = within at; tally = t; now = Added.Full }

abbrev pub new : ℕ → Bytes → Change
new used n = record { end = used; tally = fresh n; now = Added.Now (used + 1) }

unfoldable pub change_of : Tally → ℕ → ℕ → Bytes → Change
change_of t at used n = cond (is_here t at used n) (here t at used) (cond (leb most_suppliers used) (full t at) (new used n))

pub record Ready (t : Tally) (at used : ℕ) (n : Bytes) : Type 0 where
  pub few : used ≤ most_suppliers
  pub name : length n ≤ longest
  pub small : at < used → t.count ≤ most_records

-- so many tallies of a list are in use, and a record of this supplier can be added
pub record ListReady (ys : List Tally) (used : ℕ) (n : Bytes) : Type 0 where
  pub room : most_suppliers ≤ length ys
  pub few : used ≤ most_suppliers
  pub name : length n ≤ longest
  pub small : (i : ℕ) → i < used → (get_or ys i no_tally).count ≤ most_records
