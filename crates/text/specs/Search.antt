-- A search that goes on from a later position.
use Rattle.std.specs.Prelude.{ℕ, ◌+◌, ◌≡◌, Bool, drop}
use Rattle.text.specs.Text.{Bytes}
use Rattle.text.specs.Find.{first_from}

-- a search from position i on finds what one from position j on finds, wherever the count of places starts
unfoldable pub Passed : (ℕ → Bool) → Bytes → ℕ → ℕ → Type 0
Passed p s i j = (o : ℕ) → first_from p (i + o) (drop i s) ≡ first_from p (j + o) (drop j s)
