-- A record added is one more for its supplier, none for the others, and one more in all.
use Rattle.std.specs.Prelude.{ℕ, ◌+◌, ◌≡◌, refl, List, [], ◌∷◌, Bool, cond}
use Rattle.std.proofs.Common.{arith, ap}
use Rattle.text.specs.Text.{Bytes}
use Rattle.text.specs.Find.{same_bytes}
use Rattle.tally_rules.specs.declared.Order.{Order}
use Rattle.tally_rules.specs.declared.Tally.{Tally}
use Rattle.tally_rules.specs.Tally.{order, name_of, added_by, added}
use Rattle.tally_rules.specs.Order.{fresh_name}
use Rattle.tally_rules.proofs.InOrder.{order_same}
use Rattle.tally_rules.specs.Counts.{count_of}

-- ---- Each supplier's own

one_if : (t : Bool) (k : ℕ) → cond t (k + 1) 0 ≡ cond t k 0 + cond t 1 0
one_if Bool.true k = refl
one_if Bool.false k = refl

pub count_added : (m n : Bytes) (ts : List Tally) → count_of m (added n ts) ≡ count_of m ts + cond (same_bytes n m) 1 0
unfolding added count_of
count_added m n [] = rw (fresh_name n) (omega arith)
count_added m n (t ∷ ts) = go (order (name_of t) n) refl (count_added m n ts)
  where
    go : (o : Order) → order (name_of t) n ≡ o → count_of m (added n ts) ≡ count_of m ts + cond (same_bytes n m) 1 0 →
        count_of m (added_by o n t ts (added n ts)) ≡ cond (same_bytes (name_of t) m) t.count 0 + count_of m ts + cond (same_bytes n m) 1 0
    go Order.Before e again = omega (arith, again)
    go Order.Same e again =
        let z = one_if (same_bytes (name_of t) m) t.count in
        let w : ◌≡◌ {A = ℕ} (cond (same_bytes (name_of t) m) 1 0) (cond (same_bytes n m) 1 0) = ap (λ (k : Bytes). cond (same_bytes k m) 1 0) (order_same (name_of t) n e) in
        omega (arith, z, w)
    go Order.After e again = rw (fresh_name n) (omega arith)
