-- `tally_flat::order_of` meets its contract: the library's order of bytes is that of names.
use Rattle.std.proofs.Common.{ℕ, ◌≡◌, refl, sym, ap, ◌∙◌, arith, Bool, true, false, cond, List, [], ◌∷◌, le-ltb, nat_lt, nat_eq}
use borrow.Author.Tests.{eqb-true, eqb-false, ltb-false}
use Rattle.std.specs.Ordering.{ordering_then, nat_cmp}
use Rattle.std.specs.Cmp.Lexicographic.{slice_cmp}
use Rattle.std.specs.declared.cmp.Ordering.{Ordering}
use Rattle.std.specs.declared.cmp.Ordering.TheVariants.{Less, Equal, Greater}
use Rattle.tally_rules.specs.declared.Order.{Order}
use Rattle.tally_rules.specs.Tally.{order}
use Rattle.tally_flat.proofs.order_of.Goals as goal

abbrev as_order : Ordering → Order
as_order Less = Order.Before
as_order Equal = Order.Same
as_order Greater = Order.After

step : (less same more : Bool) (r : Ordering) (o : Order) → as_order r ≡ o → (same ≡ true → more ≡ false) → (less ≡ false → same ≡ false → more ≡ true) →
    as_order (ordering_then (cond less Less (cond same Equal Greater)) r) ≡ cond less Order.Before (cond more Order.After o)
step true same more r o h a b = refl
step false true more r o h a b = rw (a refl) h
step false false more r o h a b = rw (b refl refl)

above : (x y : ℕ) (more : Bool) → nat_lt y x ≡ more → nat_lt x y ≡ false → nat_eq x y ≡ false → more ≡ true
above x y true e p q = refl
above x y false e p q = absurd (eqb-false x y q (omega (arith, ltb-false x y p, ltb-false y x e)))

compared : (xs ys : List ℕ) → as_order (slice_cmp nat_cmp xs ys) ≡ order xs ys
unfolding order
compared [] [] = refl
compared [] (y ∷ ys) = refl
compared (x ∷ xs) [] = refl
compared (x ∷ xs) (y ∷ ys) =
    step (nat_lt x y) (nat_eq x y) (nat_lt y x) (slice_cmp nat_cmp xs ys) (order xs ys) (compared xs ys)
    (λ e. le-ltb y x (omega (arith, eqb-true x y e)))
    (λ p q. above x y (nat_lt y x) refl p q)

pub returns-in-Less : goal.returns-in-Less
returns-in-Less c = ap as_order (sym c.in-Less.is ∙ c.cmp.ensures) ∙ compared _ _

pub returns-in-Equal : goal.returns-in-Equal
returns-in-Equal c = ap as_order (sym c.in-Equal.is ∙ c.cmp.ensures) ∙ compared _ _

pub returns-in-Greater : goal.returns-in-Greater
returns-in-Greater c = ap as_order (sym c.in-Greater.is ∙ c.cmp.ensures) ∙ compared _ _
