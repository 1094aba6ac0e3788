-- The verdict computed is the verdict of the rules, and there is one.
use Rattle.std.specs.Prelude.{ℕ, zero, suc, ◌+◌, ◌≡◌, refl, List, Bool, false, cond, ◌||◌, ltb, length, get_or, replicate}
use Rattle.std.proofs.Common.{arith}
use Rattle.text.specs.Text.{Bytes}
use Rattle.formula_rules.specs.Formula.{elements, Trees}
use Rattle.formula_rules.specs.Depth.{deepest}
use Rattle.formula_rules.specs.Verdict.{most, Verdict, counts, refused}
use Rattle.formula_rules.specs.Parse.{UnitsRead, units, units_of, formula_of}
use Rattle.formula_rules.specs.Sums.{Below, added_units}

-- ---- The verdict computed

-- a place for each element, and place 0
abbrev pub places : ℕ
places = elements + 1

abbrev pub empty : List ℕ
empty = replicate places 0

unfoldable pub sums_of : Bytes → List ℕ
sums_of s = added_units 1 (units_of s deepest 0) empty

-- some number of the table, from place i on, is above what is allowed
unfoldable pub crowded : List ℕ → ℕ → ℕ → Bool
crowded t i zero = false
crowded t i (suc n) = ltb most (get_or t i 0) || crowded t (i + 1) n

abbrev pub trees_read : UnitsRead → Trees
trees_read (units e ts) = ts
trees_read UnitsRead.no = Trees.none

unfoldable pub trees_of : Bytes → Trees
trees_of s = trees_read (units_of s deepest 0)

-- of a text that is a formula, but may nest too deep
unfoldable pub shallow_of : Bytes → Verdict
shallow_of s = cond (formula_of s deepest) (cond (crowded (sums_of s) 1 elements) (refused 33) (counts (trees_of s))) (refused 32)

-- the text's own length is depth enough for any formula
unfoldable pub verdict_of : Bytes → Verdict
verdict_of s = cond (formula_of s (length s)) (shallow_of s) (refused 31)

-- the table of counts
unfoldable pub counts_of : Bytes → List ℕ
counts_of s = cond (formula_of s deepest) (sums_of s) empty

-- what a verdict carries: 0 is none
abbrev pub number_of : Verdict → ℕ
number_of (counts ts) = 0
number_of (refused n) = n

-- ---- It is the verdict of the rules

pub empty_place : (j : ℕ) → get_or empty j 0 ≡ 0
empty_place j = zeros places j
  where
    zeros : (n j : ℕ) → ◌≡◌ {A = ℕ} (get_or (replicate n 0) j 0) 0
    zeros zero j = refl
    zeros (suc n) zero = refl
    zeros (suc n) (suc j) = zeros n j

pub empty_below : Below empty
unfolding Below
empty_below j = omega (arith, empty_place j)
