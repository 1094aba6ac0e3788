-- Keys of twelve bytes.
use Rattle.std.specs.Prelude.{ℕ, ◌<◌, ◌≡◌, length, get_or}
use Rattle.store_log.specs.Log.{Bytes}

abbrev pub AllBytes : Bytes → Type 0
AllBytes s = (i : ℕ) → get_or s i 0 < 256

pub record Twelve (key : Bytes) : Type 0 where
  pub count : length key ≡ 12
  pub small : AllBytes key
