-- Memory and state that say what the join says of the records taken so far.
use Rattle.std.specs.Prelude.{ℕ, ◌+◌, ◌<◌, ◌≤◌, ◌≡◌, List, [], ◌∷◌, ◌++◌, cond, length, get_or}
use Rattle.store_log.specs.Store.{Store, known, place_of}
use Rattle.store_log.specs.Entries.{OneEach}
use Rattle.store_lots.specs.Memory.{Words}
use Rattle.stock_rules.specs.Key.{Keyed}
use Rattle.stock_rules.specs.Join.{Entry, records_of, never_in, keyless_in, first_place}
use Rattle.stock_rules.specs.EachOnce.{any_record, under}
use Rattle.stock_join.specs.declared.Fate.{Fate}
use Rattle.stock_join.specs.declared.Join.{Join}
use Rattle.stock_join.specs.Step.{most, After}

-- the fate of a record by its key, in the words of the store
abbrev pub fate_in : Store → Keyed → Fate
fate_in ls (Keyed.key k) = cond (known k ls) (Fate.Under (place_of k ls)) Fate.Never
fate_in ls (Keyed.no_key w f) = Fate.Keyless

-- the three numbers of a lot with these records
pub record MarkAt (marks : Words) (i : ℕ) (rs : List Entry) : Type 0 where
  pub count : get_or marks i 0 ≡ length rs
  pub file : get_or marks (512 + i) 0 ≡ (first_place rs).file
  pub number : get_or marks (1024 + i) 0 ≡ (first_place rs).number

-- from place i on
unfoldable pub MarksFrom : Words → ℕ → Store → List Entry → Type 0
MarksFrom marks i [] es = Unit {0}
MarksFrom marks i (l ∷ ls) es = MarkAt marks i (records_of l.key es) × MarksFrom marks (i + 1) ls es

-- of a store, these records are taken
pub record Stood (j : Join) (ls : Store) (es : List Entry) (marks : Words) : Type 0 where
  pub few : length ls ≤ 512
  pub each : OneEach ls
  pub room : length marks ≡ 1536
  pub lots : MarksFrom marks 0 ls es
  pub received : j.received ≡ under any_record ls es
  pub never : j.never ≡ length (never_in ls es)
  pub keyless : j.keyless ≡ length (keyless_in es)

-- the record after the last one taken
abbrev pub entry_at : Join → Keyed → Entry
entry_at j k = record { place = record { file = j.file; number = j.number + 1 }; keyed = k }

-- no number has come to its end
pub record Short (j : Join) (es : List Entry) : Type 0 where
  pub records : length es < most
  pub number : j.number < most

-- one record more: the state is past it, and says what the join says of all
pub record Moves (j : Join) (ls : Store) (es : List Entry) (k : Keyed) (a : After) : Type 0 where
  pub file : a.join.file ≡ j.file
  pub number : a.join.number ≡ j.number + 1
  pub stood : Stood a.join ls (es ++ (entry_at j k ∷ [])) a.marks
