-- A record added is one more for its supplier, none for the others, and one more in all.
use Rattle.std.specs.Prelude.{ℕ, ◌+◌, ◌≤◌, ◌≡◌, refl, List, [], ◌∷◌, cond, length}
use Rattle.std.proofs.Common.{arith}
use Rattle.text.specs.Text.{Bytes}
use Rattle.text.specs.Find.{same_bytes}
use Rattle.tally_rules.specs.declared.Order.{Order}
use Rattle.tally_rules.specs.declared.Tally.{Tally}
use Rattle.tally_rules.specs.Tally.{longest, order, name_of, added_by, added, Short, sum_of}

pub sum_added : (n : Bytes) (ts : List Tally) → sum_of (added n ts) ≡ sum_of ts + 1
unfolding added sum_of
sum_added n [] = refl
sum_added n (t ∷ ts) = go (order (name_of t) n) (sum_added n ts)
  where
    go : (o : Order) → sum_of (added n ts) ≡ sum_of ts + 1 → sum_of (added_by o n t ts (added n ts)) ≡ t.count + sum_of ts + 1
    go Order.Before again = omega (arith, again)
    go Order.Same again = omega arith
    go Order.After again = omega arith

pub length_added : (n : Bytes) (ts : List Tally) → (length ts ≤ length (added n ts)) × (length (added n ts) ≤ length ts + 1)
unfolding added
length_added n [] = (omega arith, omega arith)
length_added n (t ∷ ts) = go (order (name_of t) n) (length_added n ts)
  where
    go : (o : Order) → (length ts ≤ length (added n ts)) × (length (added n ts) ≤ length ts + 1) →
        (length (t ∷ ts) ≤ length (added_by o n t ts (added n ts))) × (length (added_by o n t ts (added n ts)) ≤ length (t ∷ ts) + 1)
    go Order.Before again = (omega (arith, again.0), omega (arith, again.1))
    go Order.Same again = (omega arith, omega arith)
    go Order.After again = (omega arith, omega arith)

pub short_added : (n : Bytes) (ts : List Tally) → length n ≤ longest → Short ts → Short (added n ts)
unfolding added Short
short_added n [] h s = (h, tt)
short_added n (t ∷ ts) h s = go (order (name_of t) n) (short_added n ts h s.1)
  where
    go : (o : Order) → Short (added n ts) → Short (added_by o n t ts (added n ts))
    go Order.Before again = (s.0, again)
    go Order.Same again = s
    go Order.After again = (h, s)

-- ---- Each supplier's own

-- all that the list has for a name
unfoldable pub count_of : Bytes → List Tally → ℕ
count_of m [] = 0
count_of m (t ∷ ts) = cond (same_bytes (name_of t) m) t.count 0 + count_of m ts
