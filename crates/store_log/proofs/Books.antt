-- The books: over any log the sum of paper quantities is the accepted receipts minus the accepted issues.
use Rattle.std.specs.Prelude.{ℕ, ◌+◌, ◌-◌, ◌≡◌, refl, List, [], ◌∷◌, ◌++◌, Bool, true, false, cond, ltb, length}
use Rattle.std.proofs.Common.{arith, ap, ltb-false}
use Rattle.std.proofs.lemmas.Bool.{false≢true}
use Rattle.store_log.specs.Log.{Bytes, Kind, Event, Close, Logged}
use Rattle.store_log.specs.Read.{replay_log}
use Rattle.store_log.specs.OneReading.{logged_read}
use Rattle.store_log.specs.Store.{Lot, Store, same_bytes, known, paper_of, with_paper, most_lots, most_paper, After, receipt_by, receipt, issue_by, issue, count, event_on}
use Rattle.store_log.specs.Replay.{replay_from, replay, accepted, received_by, issued_by, sum_of, papers_in}
use Rattle.store_log.specs.Books.{unknown_paper, unknown_same}

-- ---- One event

known_papers : (key : Bytes) (p : ℕ) (ls : Store) → known key ls ≡ true → papers_in (with_paper key p ls) + paper_of key ls ≡ papers_in ls + p
unfolding known paper_of with_paper papers_in
known_papers key p [] h = absurd (false≢true h)
known_papers key p (l ∷ ls) h = go (same_bytes key l.key) h (known_papers key p ls)
  where
    go : (t : Bool) → cond t true (known key ls) ≡ true → (known key ls ≡ true → papers_in (with_paper key p ls) + paper_of key ls ≡ papers_in ls + p) →
        papers_in (cond t (record { key = l.key; paper = p } ∷ ls) (l ∷ with_paper key p ls)) + cond t l.paper (paper_of key ls) ≡ l.paper + papers_in ls + p
    go true k again = omega arith
    go false k again = let e = again k in omega (arith, e)

more_papers : (ls : Store) (l : Lot) → papers_in (ls ++ (l ∷ [])) ≡ papers_in ls + l.paper
unfolding papers_in
more_papers [] l = omega arith
more_papers (m ∷ ls) l = let e = more_papers ls l in omega (arith, e)

-- the papers and what an event issued are the papers before and what it received
abbrev Balances : Store → Event → After → Type 0
Balances ls e a = papers_in a.store + cond (accepted a.told) (issued_by e) 0 ≡ papers_in ls + cond (accepted a.told) (received_by e) 0

receipt_book : (key : Bytes) (q : ℕ) (ls : Store) → Balances ls (Event.scan Kind.received key q) (receipt key q ls)
unfolding receipt
receipt_book key q ls = go (ltb most_paper (paper_of key ls + q)) (known key ls) refl (ltb (length ls) most_lots)
  where
    go : (t u : Bool) → known key ls ≡ u → (v : Bool) → Balances ls (Event.scan Kind.received key q) (receipt_by t u v key q ls)
    go true u k v = refl
    go false true k v = let e = known_papers key (paper_of key ls + q) ls k in omega (arith, e)
    go false false k true = let e = more_papers ls (record { key = key; paper = q }) in omega (arith, e)
    go false false k false = refl

issue_book : (key : Bytes) (q : ℕ) (ls : Store) → Balances ls (Event.scan Kind.issued key q) (issue key q ls)
unfolding issue
issue_book key q ls = go (ltb (paper_of key ls) q) refl (known key ls) refl
  where
    go : (t : Bool) → ltb (paper_of key ls) q ≡ t → (u : Bool) → known key ls ≡ u → Balances ls (Event.scan Kind.issued key q) (issue_by t key q ls)
    go true h u k = refl
    go false h true k = let e = known_papers key (paper_of key ls - q) ls k in let l = ltb-false (paper_of key ls) q h in omega (arith, e, l)
    go false h false k =
        let e = unknown_same key (paper_of key ls - q) ls k in
        let z = unknown_paper key ls k in
        let l = ltb-false (paper_of key ls) q h in
        let s = ap papers_in e in
        omega (arith, s, z, l)

one_book : (e : Event) (ls : Store) → Balances ls e (event_on e ls)
unfolding event_on count
one_book (Event.scan Kind.received key q) ls = receipt_book key q ls
one_book (Event.scan Kind.issued key q) ls = issue_book key q ls
one_book (Event.scan Kind.counted key q) ls = refl
one_book (Event.day date) ls = refl

-- ---- Any log

books_from : (ls : Store) (es : List Event) →
    papers_in (replay_from ls es).store + sum_of issued_by es (replay_from ls es).told ≡ papers_in ls + sum_of received_by es (replay_from ls es).told
unfolding replay_from sum_of
books_from ls [] = refl
books_from ls (e ∷ es) =
    let a = one_book e ls in
    let r = books_from (event_on e ls).store es in
    omega (arith, a, r)

pub books : (es : List Event) → papers_in (replay es).store + sum_of issued_by es (replay es).told ≡ sum_of received_by es (replay es).told
unfolding papers_in
books es = let b = books_from [] es in omega (arith, b)

-- in the words of the log: the events that it is, what its replay tells of them, and the store then
pub log_books : {s : Bytes} {es : List Event} {c : Close} → Logged s es c →
    papers_in (replay_log s).store + sum_of issued_by es (replay_log s).told ≡ sum_of received_by es (replay_log s).told
unfolding replay_log
log_books {es = es} g = rw (logged_read g) (books es)
