-- The store: what an event does to it, and what is told.
use Rattle.std.specs.Prelude.{ℕ, suc, ◌+◌, ◌-◌, List, [], ◌∷◌, ◌++◌, Bool, true, false, cond, ◌&&◌, eqb, ltb, length, ℤ, pos, ◌-ℤ◌}
use Rattle.store_log.specs.Log.{Bytes, Kind, Event}

-- a lot, and its quantity on paper
pub record Lot : Type 0 where
  pub key : Bytes
  pub paper : ℕ

-- the lots in the order of their first receipts
abbrev pub Store : Type 0
Store = List Lot

abbrev pub most_lots : ℕ
most_lots = 512

abbrev pub most_paper : ℕ
most_paper = 1000000

-- keys are compared as bytes
unfoldable pub same_bytes : Bytes → Bytes → Bool
same_bytes [] [] = true
same_bytes [] (y ∷ ys) = false
same_bytes (x ∷ xs) [] = false
same_bytes (x ∷ xs) (y ∷ ys) = eqb x y && same_bytes xs ys

unfoldable pub known : Bytes → Store → Bool
known key [] = false
known key (l ∷ ls) = cond (same_bytes key l.key) true (known key ls)

-- 0 for a lot never received
unfoldable pub paper_of : Bytes → Store → ℕ
paper_of key [] = 0
paper_of key (l ∷ ls) = cond (same_bytes key l.key) l.paper (paper_of key ls)

-- the lot's place in the store, from 0; the number of lots for one never received
unfoldable pub place_of : Bytes → Store → ℕ
place_of key [] = 0
place_of key (l ∷ ls) = cond (same_bytes key l.key) 0 (suc (place_of key ls))

-- the lot's figure is now p; a lot never received gets no entry
unfoldable pub with_paper : Bytes → ℕ → Store → Store
with_paper key p [] = []
with_paper key p (l ∷ ls) = cond (same_bytes key l.key) (record { key = l.key; paper = p } ∷ ls) (l ∷ with_paper key p ls)

-- what is told of an event: the quantity; of a count the lot's place, paper, shelf, and paper minus shelf; of a skipped event the refusal
pub data Told : Type 0 where
  received : ℕ → Told
  issued : ℕ → Told
  counted : (place paper shelf : ℕ) (difference : ℤ) → Told
  noted : Told
  skipped : ℕ → Told

pub record After : Type 0 where
  pub told : Told
  pub store : Store

abbrev pub skip : ℕ → Store → After
skip number ls = record { told = Told.skipped number; store = ls }

-- paper would be above its limit: 29; else the lot is known, or there is room for one more, or not: 30
abbrev pub receipt_by : Bool → Bool → Bool → Bytes → ℕ → Store → After
receipt_by above old room key q ls =
    cond above (skip 29 ls)
    (cond old (record { told = Told.received q; store = with_paper key (paper_of key ls + q) ls })
    (cond room (record { told = Told.received q; store = ls ++ (record { key = key; paper = q } ∷ []) })
    (skip 30 ls)))

unfoldable pub receipt : Bytes → ℕ → Store → After
receipt key q ls = receipt_by (ltb most_paper (paper_of key ls + q)) (known key ls) (ltb (length ls) most_lots) key q ls

-- the issue is above paper: 28
abbrev pub issue_by : Bool → Bytes → ℕ → Store → After
issue_by above key q ls = cond above (skip 28 ls) (record { told = Told.issued q; store = with_paper key (paper_of key ls - q) ls })

unfoldable pub issue : Bytes → ℕ → Store → After
issue key q ls = issue_by (ltb (paper_of key ls) q) key q ls

-- the paper figure stays
unfoldable pub count : Bytes → ℕ → Store → After
count key shelf ls = record { told = Told.counted (place_of key ls) (paper_of key ls) shelf (pos (paper_of key ls) -ℤ pos shelf); store = ls }

unfoldable pub event_on : Event → Store → After
event_on (Event.scan Kind.received key q) ls = receipt key q ls
event_on (Event.scan Kind.issued key q) ls = issue key q ls
event_on (Event.scan Kind.counted key q) ls = count key q ls
event_on (Event.day date) ls = record { told = Told.noted; store = ls }
