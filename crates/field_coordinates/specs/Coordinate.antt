-- Coordinate fields: which ten columns stand for which signed count of ten-thousandths.
use Rattle.std.specs.Prelude.{ℕ, ◌+◌, ◌*◌, ◌≡◌, ◌++◌, length, ℤ, pos, neg_ℤ}
use Rattle.text.specs.Text.{Bytes, bytes}
use Rattle.text.specs.Columns.{spaces}
use Rattle.field_numbers.specs.Number.{Digits}

-- ten columns with a point in the sixth: those before it, and the four after it
pub record Pointed (cs before after : Bytes) : Type 0 where
  pub parts : cs ≡ before ++ (bytes "." ++ after)
  pub column_6 : length before ≡ 5
  pub four : length after ≡ 4

-- All spaces stand for zero. Else spaces come first, then a `-` or none, one digit or more, the point in column 6, four digits.
pub data Coordinate : Bytes → ℤ → Type 0 where
  blank : {cs : Bytes} → cs ≡ spaces 10 → Coordinate cs (pos 0)
  plain : {cs : Bytes} (i : ℕ) (ds fs : Bytes) (whole part : ℕ) →
      Pointed cs (spaces i ++ ds) fs → Digits ds whole → Digits fs part → Coordinate cs (pos (whole * 10000 + part))
  minus : {cs : Bytes} (i : ℕ) (ds fs : Bytes) (whole part : ℕ) →
      Pointed cs (spaces i ++ (bytes "-" ++ ds)) fs → Digits ds whole → Digits fs part →
      Coordinate cs (neg_ℤ (pos (whole * 10000 + part)))
