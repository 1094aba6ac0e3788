-- What a line is worth as a formula, and which elements differ from what is drawn.
use Rattle.std.specs.Prelude.{ℕ, zero, suc, ◌+◌, ◌-◌, ◌≤◌, List, [], ◌∷◌, cond, eqb}
use Rattle.text.specs.Text.{Bytes}
use Rattle.formula_rules.specs.Formula.{Element, elements, Trees, Formula}
use Rattle.formula_rules.specs.Depth.{TreesIn, deepest}
use Rattle.formula_rules.specs.Total.{count_trees}

-- an element may be named so often
abbrev pub most : ℕ
most = 9999

pub record Few (ts : Trees) : Type 0 where
  pub each : (k : ℕ) → Element k → count_trees ts k ≤ most

pub data Verdict : Type 0 where
  counts : Trees → Verdict
  refused : ℕ → Verdict

-- 32 only if the text is a formula but for its depth, 33 only if it is one
pub data Judged (line : Bytes) : Verdict → Type 0 where
  formula : {ts : Trees} → Formula line ts → TreesIn ts deepest → Few ts → Judged line (counts ts)
  no_formula : ((ts : Trees) → ¬ Formula line ts) → Judged line (refused 31)
  too_deep : {ts : Trees} → Formula line ts → ¬ TreesIn ts deepest → Judged line (refused 32)
  too_many : {ts : Trees} → Formula line ts → TreesIn ts deepest → ¬ Few ts → Judged line (refused 33)

-- ---- Differences

pub record Difference : Type 0 where
  pub element : ℕ
  pub written : ℕ
  pub drawn : ℕ

-- of n elements, the first of them k: those of which not as many are written as drawn
unfoldable pub differing : (ℕ → ℕ) → (ℕ → ℕ) → ℕ → ℕ → List Difference
differing w d k zero = []
differing w d k (suc n) = cond (eqb (w k) (d k)) (differing w d (k + 1) n) (record { element = k; written = w k; drawn = d k } ∷ differing w d (k + 1) n)

-- of all elements but hydrogen
abbrev pub differences : (ℕ → ℕ) → (ℕ → ℕ) → List Difference
differences w d = differing w d 2 (elements - 1)

-- as numbers, one after the other
unfoldable pub numbers : List Difference → List ℕ
numbers [] = []
numbers (x ∷ xs) = x.element ∷ x.written ∷ x.drawn ∷ numbers xs
