-- The bytes that are passed by behind a refused record, byte by byte: how many they are, and that they are those of `Behind`.
use Rattle.std.specs.Prelude.{ℕ, suc, ◌+◌, ◌-◌, ◌<◌, [], ◌∷◌, Bool, true, false, cond, ◌&&◌, eqb, ltb, length}
use Rattle.std.proofs.Common.{arith}
use Rattle.text.specs.Text.{Bytes, LF}

-- ---- The definition

-- so many dollars stand at the front of a line, and then this byte; 5: it begins otherwise
unfoldable pub marked : ℕ → ℕ → ℕ
marked seen b = cond (ltb seen 4) (cond (eqb b 36) (seen + 1) 5) seen

unfoldable pub marks : ℕ → Bytes → ℕ
marks seen [] = seen
marks seen (b ∷ bs) = marks (marked seen b) bs

-- p lines are passed whatever they hold; so much of the line was seen before
unfoldable pub passed : ℕ → ℕ → Bytes → ℕ
passed p seen [] = 0
passed p seen (b ∷ t) = cond (eqb b LF) (cond (eqb p 0 && eqb seen 4) 1 (suc (passed (p - 1) 0 t))) (suc (passed p (marked seen b) t))

-- ---- Line by line

pub passed_some : (p seen : ℕ) (t : Bytes) → 0 < length t → 0 < passed p seen t
unfolding passed
passed_some p seen [] h = h
passed_some p seen (b ∷ t) h = go (eqb b LF) (eqb p 0 && eqb seen 4)
  where
    go : (x y : Bool) → 0 < cond x (cond y 1 (suc (passed (p - 1) 0 t))) (suc (passed p (marked seen b) t))
    go true true = omega arith
    go true false = omega arith
    go false y = omega arith
