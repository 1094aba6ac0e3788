-- What a count leaves in the lent memory.
use Rattle.std.specs.Prelude.{ℕ, ◌+◌, cond, ltb, set}
use Rattle.store_log.specs.Store.{most_lots}
use Rattle.store_event.specs.declared.Key.{Key}
use Rattle.store_lots.specs.Memory.{Words, place_from}

-- at a lot's place, and 512 places behind
abbrev pub count_at : Words → ℕ → ℕ → ℕ → Words
count_at counts lot paper shelf = set (set counts lot (shelf + 1)) (512 + lot) paper

unfoldable pub noted : Key → ℕ → ℕ → Words → ℕ → Words → Words
noted k paper shelf keys lots counts =
    cond (ltb most_lots lots) counts
    (cond (ltb (place_from keys k 0 lots) lots) (count_at counts (place_from keys k 0 lots) paper shelf)
    counts)
