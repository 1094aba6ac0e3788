-- Byte order tells names apart by their bytes, and a list in rising order stays so.
use Rattle.std.specs.Prelude.{ℕ, ◌≡◌, refl, List, [], ◌∷◌, Bool, true, false, cond, ltb}
use Rattle.std.proofs.Common.{arith, ap₂, ltb-false}
use Rattle.text.specs.Text.{Bytes}
use Rattle.tally_rules.specs.declared.Order.{Order}
use Rattle.tally_rules.specs.declared.Tally.{Tally}
use Rattle.tally_rules.specs.Tally.{order, name_of, fresh, one_more, added_by, added, Rising}
use Rattle.tally_rules.specs.Order.{fresh_name, Ahead, rising_join, rising_parts}

-- ---- Two names

pub order_same : (a b : Bytes) → order a b ≡ Order.Same → a ≡ b
unfolding order
order_same [] [] h = refl
order_same [] (y ∷ ys) h = absurd (let z : ◌≡◌ {A = ℕ} 0 1 = cc in omega arith)
order_same (x ∷ xs) [] h = absurd (let z : ◌≡◌ {A = ℕ} 0 1 = cc in omega arith)
order_same (x ∷ xs) (y ∷ ys) h = go (ltb x y) refl (ltb y x) refl h (order_same xs ys)
  where
    go : (t : Bool) → ltb x y ≡ t → (u : Bool) → ltb y x ≡ u → cond t Order.Before (cond u Order.After (order xs ys)) ≡ Order.Same →
        (order xs ys ≡ Order.Same → xs ≡ ys) → x ∷ xs ≡ y ∷ ys
    go true e u f k again = absurd (let z : ◌≡◌ {A = ℕ} 0 1 = cc in omega arith)
    go false e true f k again = absurd (let z : ◌≡◌ {A = ℕ} 0 1 = cc in omega arith)
    go false e false f k again =
        let l = ltb-false x y e in
        let m = ltb-false y x f in
        let z : x ≡ y = omega arith in
        ap₂ (λ (b : ℕ) (bs : Bytes). b ∷ bs) z (again k)

-- the other way round
pub order_turned : (a b : Bytes) → order a b ≡ Order.After → order b a ≡ Order.Before
unfolding order
order_turned [] [] h = absurd (let z : ◌≡◌ {A = ℕ} 0 1 = cc in omega arith)
order_turned [] (y ∷ ys) h = absurd (let z : ◌≡◌ {A = ℕ} 0 1 = cc in omega arith)
order_turned (x ∷ xs) [] h = refl
order_turned (x ∷ xs) (y ∷ ys) h = go (ltb x y) refl (ltb y x) refl h (order_turned xs ys)
  where
    go : (t : Bool) → ltb x y ≡ t → (u : Bool) → ltb y x ≡ u → cond t Order.Before (cond u Order.After (order xs ys)) ≡ Order.After →
        (order xs ys ≡ Order.After → order ys xs ≡ Order.Before) → cond (ltb y x) Order.Before (cond (ltb x y) Order.After (order ys xs)) ≡ Order.Before
    go true e u f k again = absurd (let z : ◌≡◌ {A = ℕ} 0 1 = cc in omega arith)
    go false e true f k again = rw f
    go false e false f k again = rw (f, e) (again k)

-- ---- A list

ahead_more : (t : Tally) (ts : List Tally) → Ahead t ts → Ahead (one_more t) ts
ahead_more t [] a = tt
ahead_more t (u ∷ us) a = a

ahead_added : (t : Tally) (n : Bytes) (ts : List Tally) → order (name_of t) n ≡ Order.Before → Ahead t ts → Ahead t (added n ts)
unfolding added
ahead_added t n [] h a = rw (fresh_name n) h
ahead_added t n (u ∷ us) h a = go (order (name_of u) n)
  where
    go : (o : Order) → Ahead t (added_by o n u us (added n us))
    go Order.Before = a
    go Order.Same = a
    go Order.After = rw (fresh_name n) h

pub order_kept : (n : Bytes) (ts : List Tally) → Rising ts → Rising (added n ts)
unfolding added Rising
order_kept n [] r = tt
order_kept n (t ∷ ts) r = go (order (name_of t) n) refl (order_kept n ts (rising_parts t ts r).1)
  where
    go : (o : Order) → order (name_of t) n ≡ o → Rising (added n ts) → Rising (added_by o n t ts (added n ts))
    go Order.Before e again = rising_join t (added n ts) (ahead_added t n ts e (rising_parts t ts r).0) again
    go Order.Same e again = let p = rising_parts t ts r in rising_join (one_more t) ts (ahead_more t ts p.0) p.1
    go Order.After e again = rising_join (fresh n) (t ∷ ts) (rw (fresh_name n) (order_turned (name_of t) n e)) r
