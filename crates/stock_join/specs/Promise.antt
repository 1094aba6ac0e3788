-- What fate and step promise, in the words of the store and the join.
use Rattle.std.specs.Prelude.{ℕ, ◌≤◌, ◌≡◌, List, length}
use Rattle.store_log.specs.Store.{Store}
use Rattle.store_event.specs.Twelve.{Twelve}
use Rattle.store_lots.specs.Memory.{Words}
use Rattle.store_lots.specs.Holds.{Holds}
use Rattle.stock_rules.specs.Key.{Keyed}
use Rattle.stock_rules.specs.Join.{Entry}
use Rattle.stock_key.specs.declared.KeyRead.{KeyRead}
use Rattle.stock_key.specs.Promise.{read_of}
use Rattle.stock_join.specs.declared.Fate.{Fate}
use Rattle.stock_join.specs.declared.Join.{Join}
use Rattle.stock_join.specs.Step.{fate_of, After, next_of}
use Rattle.stock_join.specs.Stands.{fate_in, Stood, Short, Moves}

-- keys have twelve bytes
abbrev pub TwelveIn : Keyed → Type 0
TwelveIn (Keyed.key k) = Twelve k
TwelveIn (Keyed.no_key w f) = Unit {0}

-- memory holds this store
pub record Held (keys : Words) (lots : ℕ) (ls : Store) : Type 0 where
  pub papers : Words
  pub holds : Holds keys papers ls
  pub lots_are : lots ≡ length ls
  pub few : length ls ≤ 512
  pub room : length papers ≡ 512

-- the answer is fixed for any key and memory; where memory holds a store, it is the one by the record's bytes
pub record FatePromise (read : KeyRead) (keys : Words) (lots : ℕ) (r : Fate) : Type 0 where
  pub answer : r ≡ fate_of read keys lots
  pub fate : (ls : Store) → Held keys lots ls → (k : Keyed) → TwelveIn k → read ≡ read_of k → r ≡ fate_in ls k

-- state and memory are fixed for any state, fate and memory; where they say what the join says of some records, they then say it of one more
pub record Promise (j : Join) (fate : Fate) (marks : Words) (a : After) : Type 0 where
  pub answer : a ≡ next_of j fate marks
  pub more : (ls : Store) (es : List Entry) → Stood j ls es marks → Short j es → (k : Keyed) → fate ≡ fate_in ls k → Moves j ls es k a
