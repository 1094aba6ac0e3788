-- As long as fewer than n(n-1)/2 pairs of n atoms are bonded, a pair is free.
use Rattle.std.specs.Prelude.{ℕ, ◌≤◌, ◌≡◌, ◌≢◌, List, [], ◌∷◌, ◌++◌}
use Rattle.rules.specs.Forms.{Bond}
use Rattle.rules.specs.Record.{NewPair, NoPairTwice}
use Rattle.judge_pairs.specs.Append.{NoneJoins, new_either, pair_once}

-- the ends are atoms of a record of n, and differ
pub record Proper (n : ℕ) (b : Bond) : Type 0 where
  pub first_low : 1 ≤ b.first
  pub first_high : b.first ≤ n
  pub second_low : 1 ≤ b.second
  pub second_high : b.second ≤ n
  pub differ : b.first ≢ b.second

pub data All (P : Bond → Type 0) : List Bond → Type 0 where
  none : All P []
  more : {b : Bond} {bs : List Bond} → P b → All P bs → All P (b ∷ bs)

-- ---- A free pair

-- any bond that joins x and y is new
pub record FreePair (n : ℕ) (bs : List Bond) : Type 0 where
  pub x : ℕ
  pub y : ℕ
  pub x_low : 1 ≤ x
  pub x_high : x ≤ n
  pub y_low : 1 ≤ y
  pub y_high : y ≤ n
  pub differ : x ≢ y
  pub new : (b : Bond) → b.first ≡ x → b.second ≡ y → NewPair b bs

module _ {n : ℕ} {bs : List Bond} (f : FreePair n bs) (b : Bond) (p : b.first ≡ f.x) (q : b.second ≡ f.y) where
  pub free_none : NoneJoins bs b
  free_none = (new_either b bs).0 (f.new b p q)

  pub free_once : NoPairTwice bs → NoPairTwice (bs ++ (b ∷ []))
  free_once h = (pair_once bs b).1 (h, f.new b p q)
