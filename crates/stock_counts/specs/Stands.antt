-- Memory that holds the last count of each lot.
use Rattle.std.specs.Prelude.{ℕ, ◌+◌, ◌≡◌, List, [], ◌∷◌, get_or, pos, ◌-ℤ◌}
use Rattle.store_log.specs.Log.{Event}
use Rattle.store_log.specs.Store.{Store, Told}
use Rattle.store_lots.specs.Memory.{Words}
use Rattle.stock_rules.specs.Join.{Count, last_count}

-- the two numbers of a lot with this last count; its difference is paper minus shelf
pub data CountIs (counts : Words) (i : ℕ) : Count → Type 0 where
  none : get_or counts i 0 ≡ 0 → CountIs counts i Count.none
  counted : {shelf : ℕ} → get_or counts i 0 ≡ shelf + 1 → CountIs counts i (Count.counted shelf (pos (get_or counts (512 + i) 0) -ℤ pos shelf))

-- from place i on
unfoldable pub CountsFrom : Words → ℕ → Store → List Event → List Told → Type 0
CountsFrom counts i [] vs ts = Unit {0}
CountsFrom counts i (l ∷ ls) vs ts = CountIs counts i (last_count l.key vs ts) × CountsFrom counts (i + 1) ls vs ts
