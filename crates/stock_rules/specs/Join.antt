-- The join of a log and a catalogue, lot by lot.
use Rattle.std.specs.Prelude.{ℕ, ◌+◌, List, [], ◌∷◌, ◌++◌, Bool, true, false, cond, not, length, ℤ}
use Rattle.rules.specs.Record.{Raw}
use Rattle.store_log.specs.Log.{Bytes, Kind, Event}
use Rattle.store_log.specs.Store.{Lot, Store, same_bytes, known, Told}
use Rattle.store_log.specs.Read.{read_all, replay_log}
use Rattle.stock_rules.specs.Key.{Keyed, Terms, record_key}

-- ---- The records of the catalogue

-- files count from 1, and so do the records of each
pub record Place : Type 0 where
  pub file : ℕ
  pub number : ℕ

pub record Entry : Type 0 where
  pub place : Place
  pub keyed : Keyed

unfoldable pub entries_in : Terms → ℕ → ℕ → List Raw → List Entry
entries_in t file number [] = []
entries_in t file number (x ∷ xs) = record { place = record { file = file; number = number }; keyed = record_key t x.items } ∷ entries_in t file (number + 1) xs

unfoldable pub entries_from : Terms → ℕ → List (List Raw) → List Entry
entries_from t file [] = []
entries_from t file (xs ∷ fs) = entries_in t file 1 xs ++ entries_from t (file + 1) fs

abbrev pub entries_of : Terms → List (List Raw) → List Entry
entries_of t fs = entries_from t 1 fs

-- ---- Which of them belong to a lot, were never received, or have no key

abbrev pub has_key : Bytes → Keyed → Bool
has_key k (Keyed.key j) = same_bytes j k
has_key k (Keyed.no_key w f) = false

abbrev pub is_never : Store → Keyed → Bool
is_never ls (Keyed.key j) = not (known j ls)
is_never ls (Keyed.no_key w f) = false

abbrev pub is_keyless : Keyed → Bool
is_keyless (Keyed.key j) = false
is_keyless (Keyed.no_key w f) = true

-- in the order of the files
unfoldable pub picked : (Entry → Bool) → List Entry → List Entry
picked f [] = []
picked f (e ∷ es) = cond (f e) (e ∷ picked f es) (picked f es)

abbrev pub records_of : Bytes → List Entry → List Entry
records_of k es = picked (λ e. has_key k e.keyed) es

abbrev pub never_in : Store → List Entry → List Entry
never_in ls es = picked (λ e. is_never ls e.keyed) es

abbrev pub keyless_in : List Entry → List Entry
keyless_in es = picked (λ e. is_keyless e.keyed) es

-- the first of these; 0 and 0 where there is none
abbrev pub first_place : List Entry → Place
first_place [] = record { file = 0; number = 0 }
first_place (e ∷ es) = e.place

-- ---- The last count of a lot

-- the shelf's figure, and paper minus shelf as it was told at that event
pub data Count : Type 0 where
  none : Count
  counted : (shelf : ℕ) (difference : ℤ) → Count

abbrev pub count_by : Bytes → Event → Told → Count
count_by k (Event.scan Kind.received key q) t = Count.none
count_by k (Event.scan Kind.issued key q) t = Count.none
count_by k (Event.scan Kind.counted key q) (Told.counted place paper shelf d) = cond (same_bytes key k) (Count.counted shelf d) Count.none
count_by k (Event.scan Kind.counted key q) (Told.received n) = Count.none
count_by k (Event.scan Kind.counted key q) (Told.issued n) = Count.none
count_by k (Event.scan Kind.counted key q) Told.noted = Count.none
count_by k (Event.scan Kind.counted key q) (Told.skipped n) = Count.none
count_by k (Event.day date) t = Count.none

abbrev pub later : Count → Count → Count
later a Count.none = a
later a (Count.counted shelf d) = Count.counted shelf d

-- also a count before the lot's first receipt
unfoldable pub last_count : Bytes → List Event → List Told → Count
last_count k [] ts = Count.none
last_count k (v ∷ vs) [] = Count.none
last_count k (v ∷ vs) (t ∷ ts) = later (count_by k v t) (last_count k vs ts)

-- ---- The join

pub record LotLine : Type 0 where
  pub lot : Lot
  pub count : Count
  pub records : ℕ
  pub first : Place

pub record Join : Type 0 where
  pub lots : List LotLine
  pub never : List Entry
  pub keyless : List Entry

unfoldable pub lot_lines : List Event → List Told → Store → List Entry → List LotLine
lot_lines vs ts [] es = []
lot_lines vs ts (l ∷ ls) es =
    record { lot = l; count = last_count l.key vs ts; records = length (records_of l.key es); first = first_place (records_of l.key es) } ∷ lot_lines vs ts ls es

-- the lots in the order of the store after the log, then the two lists in the order of the files
unfoldable pub join_of : Bytes → List Entry → Join
join_of log es =
    let r = replay_log log in
    record { lots = lot_lines (read_all log).events r.told r.store es; never = never_in r.store es; keyless = keyless_in es }
