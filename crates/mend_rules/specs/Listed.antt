-- The list in lent numbers: two for each fix, its line and what was done.
use Rattle.std.specs.Prelude.{ℕ, ◌*◌, ◌≡◌, refl, List, [], ◌∷◌, ◌++◌, length}
use Rattle.std.proofs.Common.{arith, ap}
use Rattle.mend_rules.specs.Named.{Deed, line_put, blank_dropped, lf_added, Fix}

abbrev pub deed_number : Deed → ℕ
deed_number line_put = 1
deed_number blank_dropped = 2
deed_number lf_added = 3

unfoldable pub numbers : List Fix → List ℕ
numbers [] = []
numbers (f ∷ fs) = f.line ∷ (deed_number f.deed ∷ numbers fs)

pub numbers_length : (fs : List Fix) → length (numbers fs) ≡ 2 * length fs
unfolding numbers
numbers_length [] = refl
numbers_length (f ∷ fs) = let e = numbers_length fs in omega arith

pub numbers_append : (fs gs : List Fix) → numbers (fs ++ gs) ≡ numbers fs ++ numbers gs
unfolding numbers
numbers_append [] gs = refl
numbers_append (f ∷ fs) gs = ap (λ (x : List ℕ). f.line ∷ (deed_number f.deed ∷ x)) (numbers_append fs gs)
