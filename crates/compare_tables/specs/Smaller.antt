-- The smaller of two counts.
use Rattle.std.specs.Prelude.{ℕ, ◌≤◌, ◌<◌}

pub data Smaller (n m : ℕ) : ℕ → Type 0 where
  first : n < m → Smaller n m n
  second : m ≤ n → Smaller n m m

pub smaller_first : {n m : ℕ} → n < m → Smaller n m n
smaller_first h = Smaller.first h

pub smaller_second : {n m : ℕ} → m ≤ n → Smaller n m m
smaller_second h = Smaller.second h

pub ruleset smaller_laws = (smaller_first, smaller_second)
