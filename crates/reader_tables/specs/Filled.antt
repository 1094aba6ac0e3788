-- The lent tables after a reading: its numbers, then zeros up to the limit, then what stood there before.
use Rattle.std.specs.Prelude.{ℕ, ◌-◌, List, ◌++◌, length, take, drop, replicate, ℤ, pos}

-- zeros from place `from` to before place `to`
abbrev pub cleared : List ℤ → ℕ → ℕ → List ℤ
cleared t from to = take from t ++ (replicate (to - from) (pos 0) ++ drop to t)

-- after an accepted reading of these numbers; after a refusal there are none
abbrev pub filled : ℕ → List ℤ → List ℤ → List ℤ
filled cap t vs = vs ++ (replicate (cap - length vs) (pos 0) ++ drop cap t)
