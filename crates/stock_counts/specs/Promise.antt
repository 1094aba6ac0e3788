-- What a note promises, in the words of the log and the store.
use Rattle.std.specs.Prelude.{ℕ, ◌≤◌, ◌≡◌, List, [], ◌∷◌, ◌++◌, length, pos, ◌-ℤ◌}
use Rattle.store_log.specs.Log.{Bytes, Kind, Event}
use Rattle.store_log.specs.Store.{Store, Told}
use Rattle.store_log.specs.Entries.{OneEach}
use Rattle.store_event.specs.declared.Key.{Key}
use Rattle.store_event.specs.Scan.{key_at}
use Rattle.store_event.specs.Twelve.{Twelve}
use Rattle.store_lots.specs.Memory.{Words}
use Rattle.store_lots.specs.Holds.{Holds}
use Rattle.stock_counts.specs.Note.{noted}
use Rattle.stock_counts.specs.Stands.{CountsFrom}

-- memory holds this store, each lot once, and there is room for every lot's count
pub record Ready (keys : Words) (lots : ℕ) (counts : Words) (ls : Store) : Type 0 where
  pub papers : Words
  pub holds : Holds keys papers ls
  pub lots_are : lots ≡ length ls
  pub few : length ls ≤ 512
  pub each : OneEach ls
  pub papers_room : length papers ≡ 512
  pub room : length counts ≡ 1024

-- memory is fixed for any key and memory; where it holds the last counts up to an event, it holds them up to the count that is noted
pub record Promise (k : Key) (paper shelf : ℕ) (keys : Words) (lots : ℕ) (counts after : Words) : Type 0 where
  pub answer : after ≡ noted k paper shelf keys lots counts
  pub more : (ls : Store) → Ready keys lots counts ls → (vs : List Event) (ts : List Told) → length ts ≡ length vs → CountsFrom counts 0 ls vs ts →
      (key : Bytes) → Twelve key → k ≡ key_at key 0 → (q place : ℕ) →
      CountsFrom after 0 ls (vs ++ (Event.scan Kind.counted key q ∷ [])) (ts ++ (Told.counted place paper shelf (pos paper -ℤ pos shelf) ∷ []))
