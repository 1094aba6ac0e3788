-- Entries of the store: a receipt for a lot never received makes one, also a receipt of 0; no issue and no count does; and each lot has one only.
use Rattle.std.specs.Prelude.{ℕ, ◌+◌, ◌-◌, ◌≡◌, refl, List, [], ◌∷◌, ◌++◌, Bool, true, false, cond, ltb, length}
use Rattle.std.proofs.Common.{sym, ap, ◌∙◌, true≢false}
use Rattle.store_log.specs.Log.{Bytes, Kind, Event}
use Rattle.store_log.specs.Store.{Lot, Store, same_bytes, known, paper_of, with_paper, most_lots, most_paper, receipt_by, receipt, issue_by, issue, count, event_on}
use Rattle.store_log.specs.Replay.{replay_from, replay}
use Rattle.store_log.proofs.Lots.{bytes_same, never_meet}
use Rattle.store_log.specs.Entries.{OneEach}

-- ---- Each lot has one

known_with : (k key : Bytes) (p : ℕ) (ls : Store) → known k (with_paper key p ls) ≡ known k ls
unfolding known with_paper
known_with k key p [] = refl
known_with k key p (l ∷ ls) = go (same_bytes key l.key) (known_with k key p ls)
  where
    go : (t : Bool) → known k (with_paper key p ls) ≡ known k ls →
        known k (cond t (record { key = l.key; paper = p } ∷ ls) (l ∷ with_paper key p ls)) ≡ cond (same_bytes k l.key) true (known k ls)
    go true again = refl
    go false again = ap (cond (same_bytes k l.key) true) again

with_each : (key : Bytes) (p : ℕ) (ls : Store) → OneEach ls → OneEach (with_paper key p ls)
unfolding OneEach with_paper
with_each key p [] g = tt
with_each key p (l ∷ ls) g = go (same_bytes key l.key) (with_each key p ls g.1)
  where
    go : (t : Bool) → OneEach (with_paper key p ls) → OneEach (cond t (record { key = l.key; paper = p } ∷ ls) (l ∷ with_paper key p ls))
    go true again = (g.0, g.1)
    go false again = (known_with l.key key p ls ∙ g.0, again)

-- of a list with one lot more
known_more : (k key : Bytes) (q : ℕ) (ls : Store) → known k ls ≡ false → same_bytes k key ≡ false → known k (ls ++ (record { key = key; paper = q } ∷ [])) ≡ false
unfolding known
known_more k key q [] h j = rw j
known_more k key q (l ∷ ls) h j = go (same_bytes k l.key) h (λ a. known_more k key q ls a j)
  where
    go : (t : Bool) → cond t true (known k ls) ≡ false → (known k ls ≡ false → known k (ls ++ (record { key = key; paper = q } ∷ [])) ≡ false) →
        cond t true (known k (ls ++ (record { key = key; paper = q } ∷ []))) ≡ false
    go true a again = absurd (true≢false a)
    go false a again = again a

-- a key that is not known is none of the lots', either way round
not_first : (key : Bytes) (l : Lot) (ls : Store) → known key (l ∷ ls) ≡ false → (same_bytes l.key key ≡ false) × (known key ls ≡ false)
unfolding known
not_first key l ls h = go (same_bytes key l.key) refl h
  where
    go : (t : Bool) → same_bytes key l.key ≡ t → cond t true (known key ls) ≡ false → (same_bytes l.key key ≡ false) × (known key ls ≡ false)
    go true e a = absurd (true≢false a)
    go false e a = (never_meet l.key key (λ s. true≢false (sym (ap (same_bytes key) s ∙ bytes_same key) ∙ e)), a)

more_each : (key : Bytes) (q : ℕ) (ls : Store) → known key ls ≡ false → OneEach ls → OneEach (ls ++ (record { key = key; paper = q } ∷ []))
unfolding OneEach
more_each key q [] h g = (h, tt)
more_each key q (l ∷ ls) h g =
    let n = not_first key l ls h in
    (known_more l.key key q ls g.0 n.0, more_each key q ls n.1 g.1)

receipt_each : (key : Bytes) (q : ℕ) (ls : Store) → OneEach ls → OneEach (receipt key q ls).store
unfolding receipt
receipt_each key q ls g = go (ltb most_paper (paper_of key ls + q)) (known key ls) refl (ltb (length ls) most_lots)
  where
    go : (t u : Bool) → known key ls ≡ u → (v : Bool) → OneEach (receipt_by t u v key q ls).store
    go true u k v = g
    go false true k v = with_each key (paper_of key ls + q) ls g
    go false false k true = more_each key q ls k g
    go false false k false = g

issue_each : (key : Bytes) (q : ℕ) (ls : Store) → OneEach ls → OneEach (issue key q ls).store
unfolding issue
issue_each key q ls g = go (ltb (paper_of key ls) q)
  where
    go : (t : Bool) → OneEach (issue_by t key q ls).store
    go true = g
    go false = with_each key (paper_of key ls - q) ls g

event_each : (e : Event) (ls : Store) → OneEach ls → OneEach (event_on e ls).store
unfolding event_on count
event_each (Event.scan Kind.received key q) ls g = receipt_each key q ls g
event_each (Event.scan Kind.issued key q) ls g = issue_each key q ls g
event_each (Event.scan Kind.counted key q) ls g = g
event_each (Event.day date) ls g = g

each_from : (ls : Store) (es : List Event) → OneEach ls → OneEach (replay_from ls es).store
unfolding replay_from
each_from ls [] g = g
each_from ls (e ∷ es) g = each_from (event_on e ls).store es (event_each e ls g)

pub one_each : (es : List Event) → OneEach (replay es).store
unfolding OneEach
one_each es = each_from [] es tt
