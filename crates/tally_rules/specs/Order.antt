-- Byte order tells names apart by their bytes, and a list in rising order stays so.
use Rattle.std.specs.Prelude.{ℕ, ◌≡◌, refl, List, [], ◌∷◌, Bool, cond, ltb}
use Rattle.std.proofs.Common.{arith, le-ltb}
use Rattle.std.proofs.Math.Seq.{take-append_seam}
use Rattle.text.specs.Text.{Bytes}
use Rattle.tally_rules.specs.declared.Order.{Order}
use Rattle.tally_rules.specs.declared.Tally.{Tally}
use Rattle.tally_rules.specs.Tally.{order, name_of, fresh, Rising}

-- ---- Two names

-- what is said of longer names, by their first bytes
pub order_by : (x y : ℕ) (xs ys : Bytes) (t u : Bool) → ltb x y ≡ t → ltb y x ≡ u → order (x ∷ xs) (y ∷ ys) ≡ cond t Order.Before (cond u Order.After (order xs ys))
unfolding order
order_by x y xs ys t u e f = rw (e, f)

pub same_order : (a : Bytes) → order a a ≡ Order.Same
unfolding order
same_order [] = refl
same_order (x ∷ xs) = rw (le-ltb x x (omega arith)) (same_order xs)

-- ---- A list

pub fresh_name : (n : Bytes) → name_of (fresh n) ≡ n
fresh_name n = take-append_seam n _

-- before the first of a list, where it has one
abbrev pub Ahead : Tally → List Tally → Type 0
Ahead t [] = Unit {0}
Ahead t (u ∷ us) = order (name_of t) (name_of u) ≡ Order.Before

pub rising_join : (t : Tally) (ts : List Tally) → Ahead t ts → Rising ts → Rising (t ∷ ts)
unfolding Rising
rising_join t [] a r = tt
rising_join t (u ∷ us) a r = (a, r)

pub rising_parts : (t : Tally) (ts : List Tally) → Rising (t ∷ ts) → Ahead t ts × Rising ts
unfolding Rising
rising_parts t [] r = (tt, tt)
rising_parts t (u ∷ us) r = (r.0, r.1)
