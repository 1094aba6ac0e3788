-- The replay of a log from an empty store, one event after the other, and the sums of its accepted events.
use Rattle.std.specs.Prelude.{ℕ, ◌+◌, List, [], ◌∷◌, Bool, true, false, cond}
use Rattle.store_log.specs.Log.{Kind, Event}
use Rattle.store_log.specs.Store.{Store, Told, event_on}

-- what is told of each event in turn, and the store after them: event number n is the n-th told, from 1
pub record Replayed : Type 0 where
  pub told : List Told
  pub store : Store

unfoldable pub replay_from : Store → List Event → Replayed
replay_from ls [] = record { told = []; store = ls }
replay_from ls (e ∷ es) =
    let a = event_on e ls in
    let r = replay_from a.store es in
    record { told = a.told ∷ r.told; store = r.store }

abbrev pub replay : List Event → Replayed
replay es = replay_from [] es

-- ---- Sums over the log

abbrev pub accepted : Told → Bool
accepted (Told.received q) = true
accepted (Told.issued q) = true
accepted (Told.counted place paper shelf d) = true
accepted Told.noted = true
accepted (Told.skipped number) = false

abbrev pub received_by : Event → ℕ
received_by (Event.scan Kind.received key q) = q
received_by (Event.scan Kind.issued key q) = 0
received_by (Event.scan Kind.counted key q) = 0
received_by (Event.day date) = 0

abbrev pub issued_by : Event → ℕ
issued_by (Event.scan Kind.received key q) = 0
issued_by (Event.scan Kind.issued key q) = q
issued_by (Event.scan Kind.counted key q) = 0
issued_by (Event.day date) = 0

-- of the log's events, those that were accepted
unfoldable pub sum_of : (Event → ℕ) → List Event → List Told → ℕ
sum_of f [] ts = 0
sum_of f (e ∷ es) [] = 0
sum_of f (e ∷ es) (t ∷ ts) = cond (accepted t) (f e) 0 + sum_of f es ts

unfoldable pub papers_in : Store → ℕ
papers_in [] = 0
papers_in (l ∷ ls) = l.paper + papers_in ls
