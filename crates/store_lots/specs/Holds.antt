-- Memory that holds a store: at each lot's place its key as three words, and its paper.
use Rattle.std.specs.Prelude.{ℕ, ◌+◌, ◌≡◌, [], ◌∷◌, get_or}
use Rattle.store_log.specs.Store.{Lot, Store}
use Rattle.store_event.specs.Twelve.{Twelve}
use Rattle.store_event.specs.declared.Key.{Key}
use Rattle.store_lots.specs.Memory.{Words}
use Rattle.store_event.specs.Scan.{key_at}

abbrev pub words_at : Words → ℕ → Key
words_at keys i = record { supplier = get_or keys i 0; first = get_or keys (512 + i) 0; second = get_or keys (1024 + i) 0 }

pub record LotAt (keys papers : Words) (i : ℕ) (l : Lot) : Type 0 where
  pub twelve : Twelve l.key
  pub words : words_at keys i ≡ key_at l.key 0
  pub figure : get_or papers i 0 ≡ l.paper

-- from place i on
unfoldable pub HoldsFrom : Words → Words → ℕ → Store → Type 0
HoldsFrom keys papers i [] = Unit {0}
HoldsFrom keys papers i (l ∷ ls) = LotAt keys papers i l × HoldsFrom keys papers (i + 1) ls

abbrev pub Holds : Words → Words → Store → Type 0
Holds keys papers ls = HoldsFrom keys papers 0 ls
