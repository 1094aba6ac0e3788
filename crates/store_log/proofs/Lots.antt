-- Lots are told apart by bytes, and each lot's paper is its own accepted receipts minus its own accepted issues.
use Rattle.std.specs.Prelude.{ℕ, ◌+◌, ◌-◌, ◌≡◌, List, [], ◌∷◌, ◌++◌, Bool, cond, ◌&&◌, eqb, length}
use Rattle.std.proofs.Common.{arith, sym, ap₂, ◌∙◌, subst, true≢false}
use Rattle.std.proofs.Math.Path.{refl, ap}
use Rattle.std.proofs.Math.Bool.{true, false}
use Rattle.std.proofs.lemmas.Bool.{false≢true}
use Rattle.std.proofs.Math.Dec.{ltb}
use borrow.Author.Tests.{eq-eqb, eqb-true, ltb-false}
use Rattle.store_log.specs.Log.{Bytes, Kind, Event}
use Rattle.store_log.specs.Store.{Store, same_bytes, known, paper_of, with_paper, most_lots, most_paper, After, receipt_by, receipt, issue_by, issue, count, event_on}
use Rattle.store_log.specs.Replay.{replay_from, replay, accepted, sum_of}
use Rattle.store_log.specs.Books.{unknown_paper, unknown_same}
use Rattle.store_log.specs.Lots.{received_for, issued_for}

-- ---- Keys are the same exactly if their bytes are

pub same_bytes_lem : (a b : Bytes) → same_bytes a b ≡ true → a ≡ b
unfolding same_bytes
same_bytes_lem [] [] h = refl
same_bytes_lem [] (y ∷ ys) h = absurd (false≢true h)
same_bytes_lem (x ∷ xs) [] h = absurd (false≢true h)
same_bytes_lem (x ∷ xs) (y ∷ ys) h = go (eqb x y) refl h (same_bytes_lem xs ys)
  where
    go : (t : Bool) → eqb x y ≡ t → (t && same_bytes xs ys) ≡ true → (same_bytes xs ys ≡ true → xs ≡ ys) → x ∷ xs ≡ y ∷ ys
    go true e k again = ap₂ (λ (z : ℕ) (zs : Bytes). z ∷ zs) (eqb-true x y e) (again k)
    go false e k again = absurd (false≢true k)

pub bytes_same : (a : Bytes) → same_bytes a a ≡ true
unfolding same_bytes
bytes_same [] = refl
bytes_same (x ∷ xs) = rw (eq-eqb x x refl) (bytes_same xs)

pub never_meet : (a b : Bytes) → (a ≡ b → ⊥) → same_bytes a b ≡ false
never_meet a b h = go (same_bytes a b) refl
  where
    go : (t : Bool) → same_bytes a b ≡ t → t ≡ false
    go true e = absurd (h (same_bytes_lem a b e))
    go false e = refl

-- ---- One lot's figure after a change

other_paper : (key k : Bytes) (p : ℕ) (ls : Store) → same_bytes key k ≡ false → paper_of key (with_paper k p ls) ≡ paper_of key ls
unfolding paper_of with_paper
other_paper key k p [] h = refl
other_paper key k p (l ∷ ls) h = go (same_bytes k l.key) refl (other_paper key k p ls h)
  where
    go : (t : Bool) → same_bytes k l.key ≡ t → paper_of key (with_paper k p ls) ≡ paper_of key ls →
        paper_of key (cond t (record { key = l.key; paper = p } ∷ ls) (l ∷ with_paper k p ls)) ≡ cond (same_bytes key l.key) l.paper (paper_of key ls)
    go true e again = let z : same_bytes key l.key ≡ false = ap (same_bytes key) (sym (same_bytes_lem k l.key e)) ∙ h in rw z
    go false e again = ap (cond (same_bytes key l.key) l.paper) again

own_paper : (key : Bytes) (p : ℕ) (ls : Store) → known key ls ≡ true → paper_of key (with_paper key p ls) ≡ p
unfolding known paper_of with_paper
own_paper key p [] h = absurd (false≢true h)
own_paper key p (l ∷ ls) h = go (same_bytes key l.key) refl h (own_paper key p ls)
  where
    go : (t : Bool) → same_bytes key l.key ≡ t → cond t true (known key ls) ≡ true → (known key ls ≡ true → paper_of key (with_paper key p ls) ≡ p) →
        paper_of key (cond t (record { key = l.key; paper = p } ∷ ls) (l ∷ with_paper key p ls)) ≡ p
    go true e k again = rw e
    go false e k again = rw e (again k)

more_other : (key k : Bytes) (q : ℕ) (ls : Store) → same_bytes key k ≡ false → paper_of key (ls ++ (record { key = k; paper = q } ∷ [])) ≡ paper_of key ls
unfolding paper_of
more_other key k q [] h = rw h
more_other key k q (l ∷ ls) h = ap (cond (same_bytes key l.key) l.paper) (more_other key k q ls h)

more_own : (key : Bytes) (q : ℕ) (ls : Store) → known key ls ≡ false → paper_of key (ls ++ (record { key = key; paper = q } ∷ [])) ≡ q
unfolding known paper_of
more_own key q [] h = rw (bytes_same key)
more_own key q (l ∷ ls) h = go (same_bytes key l.key) h (more_own key q ls)
  where
    go : (t : Bool) → cond t true (known key ls) ≡ false → (known key ls ≡ false → paper_of key (ls ++ (record { key = key; paper = q } ∷ [])) ≡ q) →
        cond t l.paper (paper_of key (ls ++ (record { key = key; paper = q } ∷ []))) ≡ q
    go true k again = absurd (true≢false k)
    go false k again = again k

-- ---- One event

abbrev Balances : Bytes → Store → Event → After → Type 0
Balances key ls e a = paper_of key a.store + cond (accepted a.told) (issued_for key e) 0 ≡ paper_of key ls + cond (accepted a.told) (received_for key e) 0

module _ (key k : Bytes) (q : ℕ) (ls : Store) where
  received_other : same_bytes key k ≡ false → Balances key ls (Event.scan Kind.received k q) (receipt k q ls)
  unfolding receipt
  received_other h = go (ltb most_paper (paper_of k ls + q)) (known k ls) (ltb (length ls) most_lots)
    where
      go : (t u v : Bool) → Balances key ls (Event.scan Kind.received k q) (receipt_by t u v k q ls)
      go true u v = refl
      go false true v = rw h (let e = other_paper key k (paper_of k ls + q) ls h in omega (arith, e))
      go false false true = rw h (let e = more_other key k q ls h in omega (arith, e))
      go false false false = refl

  issued_other : same_bytes key k ≡ false → Balances key ls (Event.scan Kind.issued k q) (issue k q ls)
  unfolding issue
  issued_other h = go (ltb (paper_of k ls) q)
    where
      go : (t : Bool) → Balances key ls (Event.scan Kind.issued k q) (issue_by t k q ls)
      go true = refl
      go false = rw h (let e = other_paper key k (paper_of k ls - q) ls h in omega (arith, e))

module _ (key : Bytes) (q : ℕ) (ls : Store) where
  received_own : Balances key ls (Event.scan Kind.received key q) (receipt key q ls)
  unfolding receipt
  received_own = go (ltb most_paper (paper_of key ls + q)) (known key ls) refl (ltb (length ls) most_lots)
    where
      go : (t u : Bool) → known key ls ≡ u → (v : Bool) → Balances key ls (Event.scan Kind.received key q) (receipt_by t u v key q ls)
      go true u k v = refl
      go false true k v = rw (bytes_same key) (let e = own_paper key (paper_of key ls + q) ls k in omega (arith, e))
      go false false k true = rw (bytes_same key) (let e = more_own key q ls k in let z = unknown_paper key ls k in omega (arith, e, z))
      go false false k false = refl

  issued_own : Balances key ls (Event.scan Kind.issued key q) (issue key q ls)
  unfolding issue
  issued_own = go (ltb (paper_of key ls) q) refl (known key ls) refl
    where
      go : (t : Bool) → ltb (paper_of key ls) q ≡ t → (u : Bool) → known key ls ≡ u → Balances key ls (Event.scan Kind.issued key q) (issue_by t key q ls)
      go true h u k = refl
      go false h true k =
          let e = own_paper key (paper_of key ls - q) ls k in
          let l = ltb-false (paper_of key ls) q h in
          rw (bytes_same key) (omega (arith, e, l))
      go false h false k =
          let e = ap (paper_of key) (unknown_same key (paper_of key ls - q) ls k) in
          let z = unknown_paper key ls k in
          let l = ltb-false (paper_of key ls) q h in
          rw (bytes_same key) (omega (arith, e, z, l))

one_lot : (key : Bytes) (e : Event) (ls : Store) → Balances key ls e (event_on e ls)
unfolding event_on count
one_lot key (Event.scan Kind.received k q) ls = go (same_bytes key k) refl
  where
    go : (t : Bool) → same_bytes key k ≡ t → Balances key ls (Event.scan Kind.received k q) (receipt k q ls)
    go true e = subst (λ (j : Bytes). Balances key ls (Event.scan Kind.received j q) (receipt j q ls)) (same_bytes_lem key k e) (received_own key q ls)
    go false e = received_other key k q ls e
one_lot key (Event.scan Kind.issued k q) ls = go (same_bytes key k) refl
  where
    go : (t : Bool) → same_bytes key k ≡ t → Balances key ls (Event.scan Kind.issued k q) (issue k q ls)
    go true e = subst (λ (j : Bytes). Balances key ls (Event.scan Kind.issued j q) (issue j q ls)) (same_bytes_lem key k e) (issued_own key q ls)
    go false e = issued_other key k q ls e
one_lot key (Event.scan Kind.counted k q) ls = refl
one_lot key (Event.day date) ls = refl

-- ---- Any log

lot_from : (key : Bytes) (ls : Store) (es : List Event) →
    paper_of key (replay_from ls es).store + sum_of (issued_for key) es (replay_from ls es).told ≡ paper_of key ls + sum_of (received_for key) es (replay_from ls es).told
unfolding replay_from sum_of
lot_from key ls [] = refl
lot_from key ls (e ∷ es) =
    let a = one_lot key e ls in
    let r = lot_from key (event_on e ls).store es in
    omega (arith, a, r)

pub lot_books : (key : Bytes) (es : List Event) →
    paper_of key (replay es).store + sum_of (issued_for key) es (replay es).told ≡ sum_of (received_for key) es (replay es).told
unfolding paper_of
lot_books key es = let b = lot_from key [] es in omega (arith, b)
