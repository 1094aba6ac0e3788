-- Canonical lines are well formed, and stand for the very reading they were written for.
use Rattle.std.specs.Prelude.{ℕ, ◌≤◌, List, [], map, ℤ, pos, negsuc, nat_abs}
use Rattle.field_numbers.specs.Number.{OneOf}
use Rattle.rules.specs.Canon.{FromTo}

pub sized : (least most : ℕ) (z : ℤ) → FromTo least most z → (least ≤ nat_abs z) × (nat_abs z ≤ most)
sized least most (pos k) h = h
sized least most (negsuc k) h = absurd h

-- ---- Bonds

pub one_map : {A B : Type 0} (f : A → B) {x : A} {xs : List A} → OneOf x xs → OneOf (f x) (map f xs)
one_map f OneOf.this = OneOf.this
one_map f (OneOf.later o) = OneOf.later (one_map f o)
