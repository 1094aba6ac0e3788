-- Tallies in flat memory: where each stands, how places are made, and what is added.
use Rattle.std.specs.Prelude.{ℕ, zero, suc, ◌+◌, ◌*◌, ◌-◌, ◌≤◌, ◌<◌, ◌≡◌, List, [], ◌∷◌, ◌++◌, Bool, cond, ltb, leb, length, get_or, set, take, drop}
use Rattle.text.specs.Text.{Bytes}
use Rattle.tally_rules.specs.declared.Order.{Order}
use Rattle.tally_rules.specs.declared.Tally.{Tally}
use Rattle.tally_rules.specs.Tally.{most_suppliers, longest, most_records, order, added}
use Rattle.tally_flat.specs.declared.Slot.{Slot}
use Rattle.tally_flat.specs.declared.Added.{Added}

pub record Memory : Type 0 where
  pub names : List ℕ
  pub lengths : List ℕ
  pub counts : List ℕ

abbrev pub memory : List ℕ → List ℕ → List ℕ → Memory
memory ns ls cs = record { names = ns; lengths = ls; counts = cs }

abbrev pub name_bytes : ℕ
name_bytes = 1536

pub record Sized (m : Memory) : Type 0 where
  pub names : length m.names ≡ name_bytes
  pub lengths : length m.lengths ≡ most_suppliers
  pub counts : length m.counts ≡ most_suppliers

-- ---- Tally i

abbrev pub tally_at : Memory → ℕ → Tally
tally_at m i = record { name = take longest (drop (longest * i) m.names); length = get_or m.lengths i 0; count = get_or m.counts i 0 }

-- k tallies from tally i on
unfoldable pub tallies_from : Memory → ℕ → ℕ → List Tally
tallies_from m i zero = []
tallies_from m i (suc k) = tally_at m i ∷ tallies_from m (i + 1) k

abbrev pub tallies_in : Memory → List Tally
tallies_in m = tallies_from m 0 most_suppliers

-- ---- Names, and the place of one among them

abbrev pub name_at : List ℕ → List ℕ → ℕ → Bytes
name_at ns ls i = take (get_or ls i 0) (drop (longest * i) ns)

unfoldable pub names_from : List ℕ → List ℕ → ℕ → ℕ → List Bytes
names_from ns ls i zero = []
names_from ns ls i (suc k) = name_at ns ls i ∷ names_from ns ls (i + 1) k

-- so many tallies are in use, and each name fits its place
pub record Looked (ns ls : List ℕ) (used : ℕ) : Type 0 where
  pub names : length ns ≡ name_bytes
  pub lengths : length ls ≡ most_suppliers
  pub few : used ≤ most_suppliers
  pub short : (i : ℕ) → i < used → get_or ls i 0 ≤ longest

abbrev pub slot_by : Order → ℕ → Slot → Slot
slot_by Order.Before i rest = rest
slot_by Order.Same i rest = Slot.Here i
slot_by Order.After i rest = Slot.New i

-- among names of which the first has place i
unfoldable pub slot_from : Bytes → ℕ → List Bytes → Slot
slot_from n i [] = Slot.New i
slot_from n i (m ∷ ms) = slot_by (order m n) i (slot_from n (i + 1) ms)

-- ---- A place made

-- k numbers from place `from` on move w places up, the last first
unfoldable pub shifted : ℕ → ℕ → ℕ → List ℕ → List ℕ
shifted w zero from xs = xs
shifted w (suc k) from xs = shifted w k from (set xs (from + k + w) (get_or xs (from + k) 0))

-- k bytes of a name from its byte j on, zero past its end, where its first byte has place `at`
unfoldable pub put_from : ℕ → ℕ → ℕ → Bytes → List ℕ → List ℕ
put_from zero at j n xs = xs
put_from (suc k) at j n xs = put_from k at (j + 1) n (set xs (at + j) (get_or n j 0))

-- a new tally at place p of so many in use
abbrev pub inserted : ℕ → ℕ → Bytes → Memory → Memory
inserted p used n m =
    record {
      names = put_from longest (longest * p) 0 n (shifted longest (longest * (used - p)) (longest * p) m.names);
      lengths = set (shifted 1 (used - p) p m.lengths) p (length n);
      counts = set (shifted 1 (used - p) p m.counts) p 1;
    }

-- the name belongs at place p of so many in use
pub record Near (m : Memory) (p used : ℕ) (n : Bytes) : Type 0 where
  pub sized : Sized m
  pub place : p ≤ used
  pub few : used ≤ most_suppliers
  pub name : length n ≤ longest

-- and there is room for one more
pub record Placed (m : Memory) (p used : ℕ) (n : Bytes) : Type 0 where
  pub sized : Sized m
  pub place : p ≤ used
  pub room : used < most_suppliers
  pub name : length n ≤ longest

abbrev pub new_of : ℕ → Added
new_of used = cond (leb most_suppliers used) Added.Full (Added.Now (used + 1))

unfoldable pub after_new : ℕ → ℕ → Bytes → Memory → Memory
after_new p used n m = cond (leb most_suppliers used) m (inserted p used n m)

-- ---- One record more

pub record AddReady (m : Memory) (used : ℕ) (n : Bytes) : Type 0 where
  pub sized : Sized m
  pub few : used ≤ most_suppliers
  pub name : length n ≤ longest
  pub short : (i : ℕ) → i < used → get_or m.lengths i 0 ≤ longest
  pub small : (i : ℕ) → i < used → get_or m.counts i 0 ≤ most_records

-- there is no place for a 65th
abbrev pub too_many : List Tally → Bool
too_many ts = ltb most_suppliers (length ts)

abbrev pub now_of : List Tally → Added
now_of ts = cond (too_many ts) Added.Full (Added.Now (length ts))

unfoldable pub added_of : Memory → ℕ → Bytes → Added
added_of m used n = now_of (added n (tallies_from m 0 used))

-- these tallies over the first of a list
abbrev pub laid : List Tally → List Tally → List Tally
laid ts all = ts ++ drop (length ts) all

abbrev pub laid_by : List Tally → List Tally → List Tally
laid_by ts all = cond (too_many ts) all (laid ts all)

-- memory m with so many in use is then m'
pub record AddedTo (m : Memory) (used : ℕ) (n : Bytes) (m' : Memory) : Type 0 where
  pub sized : Sized m'
  pub tallies : tallies_in m' ≡ laid_by (added n (tallies_from m 0 used)) (tallies_in m)
