-- Places in memory that holds a store: the search finds the lot, its paper stands there, and what is stored there is the store after.
use Prim.Native.Nat.{ℕ, suc, ◌+◌, ◌≤◌, ◌<◌}
use Rattle.std.proofs.Common.{arith, add-zero, zero-add, ◌∙◌, subst, true≢false, lt-ltb, le-ltb}
use Rattle.std.specs.Prelude.{◌≡◌, Bool, ltb}
use Rattle.std.proofs.Math.Path.{refl, sym}
use mathlib.Core.List.{[], ◌∷◌, ◌++◌}
use Rattle.std.proofs.Math.Bool.{true, false, cond}
use Rattle.std.proofs.lemmas.Bool.{false≢true}
use Rattle.std.proofs.Math.ListN.{length, get_or, set, length-set}
use Rattle.std.proofs.Math.Seq.{get_or-set_same, get_or-set_other}
use Rattle.store_log.specs.Log.{Bytes}
use Rattle.store_log.specs.Store.{Lot, Store, same_bytes, known, paper_of, place_of, with_paper}
use Rattle.store_log.specs.Books.{unknown_paper}
use Rattle.store_event.specs.declared.Key.{Key}
use Rattle.store_lots.specs.Memory.{Words, place_from, paper_at, put_key}
use Rattle.store_event.specs.Scan.{key_at}
use Rattle.store_event.specs.Twelve.{Twelve}
use Rattle.store_lots.specs.Holds.{words_at, LotAt, HoldsFrom, Holds}
use Rattle.store_lots.specs.Words.{same_there}

-- ---- Other places

-- both memories say the same of the places from i to before i + n
abbrev Agree : Words → Words → Words → Words → ℕ → ℕ → Type 0
Agree keys papers ks ps i n = (j : ℕ) → i ≤ j → j < i + n → (words_at ks j ≡ words_at keys j) × (get_or ps j 0 ≡ get_or papers j 0)

lot_kept : (keys papers ks ps : Words) (i : ℕ) (l : Lot) → (words_at ks i ≡ words_at keys i) × (get_or ps i 0 ≡ get_or papers i 0) → LotAt keys papers i l → LotAt ks ps i l
lot_kept keys papers ks ps i l a g = record { twelve = g.twelve; words = a.0 ∙ g.words; figure = a.1 ∙ g.figure }

holds_kept : (keys papers ks ps : Words) (i : ℕ) (ls : Store) → Agree keys papers ks ps i (length ls) → HoldsFrom keys papers i ls → HoldsFrom ks ps i ls
unfolding HoldsFrom
holds_kept keys papers ks ps i [] a g = tt
holds_kept keys papers ks ps i (l ∷ ls) a g = (
  lot_kept keys papers ks ps i l (a i (omega arith) (omega arith)) g.0,
  holds_kept keys papers ks ps (i + 1) ls (λ j low high. a j (omega arith) (omega arith)) g.1,
)

-- a paper stored before these places
before_kept : (keys papers : Words) (i : ℕ) (ls : Store) (j p : ℕ) → j < i → HoldsFrom keys papers i ls → HoldsFrom keys (set papers j p) i ls
before_kept keys papers i ls j p h g =
    holds_kept keys papers keys (set papers j p) i ls (λ k low high. (refl, get_or-set_other papers j k p 0 (λ e. omega (arith, e)))) g

-- ---- The search

module _ (keys papers : Words) (key : Bytes) (f : Twelve key) where
  abbrev place : ℕ → ℕ → ℕ
  place i n = place_from keys (key_at key 0) i n

  pub unknown_place : (i : ℕ) (ls : Store) → HoldsFrom keys papers i ls → known key ls ≡ false → place i (length ls) ≡ i + length ls
  unfolding HoldsFrom known place_from
  unknown_place i [] g h = sym (add-zero i)
  unknown_place i (l ∷ ls) g h = rw (same_there keys i key l.key f g.0.twelve g.0.words) (go (same_bytes key l.key) h (unknown_place (i + 1) ls g.1))
    where
      go : (t : Bool) → cond t true (known key ls) ≡ false → (known key ls ≡ false → place (i + 1) (length ls) ≡ i + 1 + length ls) →
          cond t i (place (i + 1) (length ls)) ≡ i + suc (length ls)
      go true k again = absurd (true≢false k)
      go false k again = let e = again k in omega (arith, e)

  place_from_lem : (i : ℕ) (ls : Store) → HoldsFrom keys papers i ls → place i (length ls) ≡ i + place_of key ls
  unfolding HoldsFrom place_of place_from
  place_from_lem i [] g = sym (add-zero i)
  place_from_lem i (l ∷ ls) g = rw (same_there keys i key l.key f g.0.twelve g.0.words) (go (same_bytes key l.key) (place_from_lem (i + 1) ls g.1))
    where
      go : (t : Bool) → place (i + 1) (length ls) ≡ i + 1 + place_of key ls → cond t i (place (i + 1) (length ls)) ≡ i + cond t 0 (suc (place_of key ls))
      go true again = sym (add-zero i)
      go false again = omega (arith, again)

  pub place_is : (ls : Store) → Holds keys papers ls → place 0 (length ls) ≡ place_of key ls
  place_is ls g = place_from_lem 0 ls g ∙ zero-add (place_of key ls)

  -- a known lot: where it stands, what stands there, and the store with another figure there
  pub record Found (i : ℕ) (ls : Store) (p at : ℕ) : Type 0 where
    pub low : i ≤ at
    pub high : at < i + length ls
    pub figure : get_or papers at 0 ≡ paper_of key ls
    pub stored : HoldsFrom keys (set papers at p) i (with_paper key p ls)

  pub known_place : (i : ℕ) (ls : Store) (p : ℕ) → i + length ls ≤ length papers → HoldsFrom keys papers i ls → known key ls ≡ true → Found i ls p (place i (length ls))
  unfolding HoldsFrom known paper_of with_paper place_from
  known_place i [] p l g h = absurd (false≢true h)
  known_place i (m ∷ ls) p l g h =
      rw (same_there keys i key m.key f g.0.twelve g.0.words) (go (same_bytes key m.key) refl h (known_place (i + 1) ls p (omega arith) g.1))
    where
      go : (t : Bool) → same_bytes key m.key ≡ t → cond t true (known key ls) ≡ true → (known key ls ≡ true → Found (i + 1) ls p (place (i + 1) (length ls))) →
          Found i (m ∷ ls) p (cond t i (place (i + 1) (length ls)))
      go true e k again = record {
        low = omega arith;
        high = omega arith;
        figure = rw e g.0.figure;
        stored = rw e (
          record { twelve = g.0.twelve; words = g.0.words; figure = get_or-set_same papers i p 0 (omega arith) },
          before_kept keys papers (i + 1) ls i p (omega arith) g.1,
        );
      }
      go false e k again =
          let n = again k in
          let at = place (i + 1) (length ls) in
          let low = n.low in
          let high = n.high in
          record {
            low = omega (arith, low);
            high = omega (arith, high);
            figure = rw e n.figure;
            stored = rw e (lot_kept keys papers keys (set papers at p) i m (refl, get_or-set_other papers at i p 0 (λ q. omega (arith, low, q))) g.0, n.stored);
          }

-- ---- A lot among all lots

module _ (keys papers : Words) (key : Bytes) (f : Twelve key) (ls : Store) (g : Holds keys papers ls) (few : length ls ≤ 512) (lp : length papers ≡ 512) where
  abbrev lot : ℕ
  lot = place_from keys (key_at key 0) 0 (length ls)

  pub with_stored : (p : ℕ) → known key ls ≡ true → Holds keys (set papers lot p) (with_paper key p ls)
  with_stored p h = (known_place keys papers key f 0 ls p (omega arith) g h).stored

  pub known_is : ltb lot (length ls) ≡ known key ls
  known_is = go (known key ls) refl
    where
      go : (t : Bool) → known key ls ≡ t → ltb lot (length ls) ≡ t
      go true e = let h = (known_place keys papers key f 0 ls 0 (omega arith) g e).high in lt-ltb lot (length ls) (omega (arith, h))
      go false e = let h = unknown_place keys papers key f 0 ls g e in le-ltb lot (length ls) (omega (arith, h))

  pub paper_is : paper_at papers lot (length ls) ≡ paper_of key ls
  unfolding paper_at
  paper_is = rw known_is (go (known key ls) refl)
    where
      go : (t : Bool) → known key ls ≡ t → cond t (get_or papers lot 0) 0 ≡ paper_of key ls
      go true e = (known_place keys papers key f 0 ls 0 (omega arith) g e).figure
      go false e = sym (unknown_paper key ls e)

-- ---- One lot more

holds_more : (keys papers : Words) (i : ℕ) (ls : Store) (l : Lot) → HoldsFrom keys papers i ls → LotAt keys papers (i + length ls) l → HoldsFrom keys papers i (ls ++ (l ∷ []))
unfolding HoldsFrom
holds_more keys papers i [] l g n = (subst (λ (j : ℕ). LotAt keys papers j l) (add-zero i) n, tt)
holds_more keys papers i (m ∷ ls) l g n =
    let e : i + suc (length ls) ≡ i + 1 + length ls = omega arith in
    (g.0, holds_more keys papers (i + 1) ls l g.1 (subst (λ (j : ℕ). LotAt keys papers j l) e n))

module _ (keys : Words) (n : ℕ) (k : Key) (lk : length keys ≡ 1536) (few : n < 512) where
  put_there : words_at (put_key keys n k) n ≡ k
  unfolding put_key
  put_there =
      let a = set keys n k.supplier in
      let b = set a (512 + n) k.first in
      let c = set b (1024 + n) k.second in
      let la = length-set keys n k.supplier in
      let lb = length-set a (512 + n) k.first in
      let s : get_or c n 0 ≡ k.supplier =
      get_or-set_other b (1024 + n) n k.second 0 (λ e. omega (arith, e)) ∙ get_or-set_other a (512 + n) n k.first 0 (λ e. omega (arith, e)) ∙
      get_or-set_same keys n k.supplier 0 (omega arith) in
      let t : get_or c (512 + n) 0 ≡ k.first =
      get_or-set_other b (1024 + n) (512 + n) k.second 0 (λ e. omega (arith, e)) ∙ get_or-set_same a (512 + n) k.first 0 (omega (arith, la)) in
      let u : get_or c (1024 + n) 0 ≡ k.second = get_or-set_same b (1024 + n) k.second 0 (omega (arith, la, lb)) in
      rw (s, t, u)

  put_beside : (j : ℕ) → j < n → words_at (put_key keys n k) j ≡ words_at keys j
  unfolding put_key
  put_beside j h = rw (beside j (omega arith) (omega arith) (omega arith), beside (512 + j) (omega arith) (omega arith) (omega arith), beside (1024 + j) (omega arith) (omega arith) (omega arith))
    where
      beside : (i : ℕ) → (i ≡ n → ⊥) → (i ≡ 512 + n → ⊥) → (i ≡ 1024 + n → ⊥) →
          get_or (set (set (set keys n k.supplier) (512 + n) k.first) (1024 + n) k.second) i 0 ≡ get_or keys i 0
      beside i a b c =
          get_or-set_other (set (set keys n k.supplier) (512 + n) k.first) (1024 + n) i k.second 0 c ∙
          get_or-set_other (set keys n k.supplier) (512 + n) i k.first 0 b ∙ get_or-set_other keys n i k.supplier 0 a

pub new_stored : (keys papers : Words) (key : Bytes) → Twelve key → (ls : Store) → Holds keys papers ls → length keys ≡ 1536 → length papers ≡ 512 → length ls < 512 →
    (q : ℕ) → Holds (put_key keys (length ls) (key_at key 0)) (set papers (length ls) q) (ls ++ (record { key = key; paper = q } ∷ []))
new_stored keys papers key f ls g lk lp few q =
    let n = length ls in
    let k = key_at key 0 in
    let ks = put_key keys n k in
    let ps = set papers n q in
    let new : LotAt ks ps n (record { key = key; paper = q }) = record { twelve = f; words = put_there keys n k lk few; figure = get_or-set_same papers n q 0 (omega arith) } in
    holds_more ks ps 0 ls (record { key = key; paper = q })
    (holds_kept keys papers ks ps 0 ls (λ j low high. (put_beside keys n k lk few j (omega arith), get_or-set_other papers n j q 0 (λ e. omega (arith, e)))) g)
    (subst (λ (j : ℕ). LotAt ks ps j (record { key = key; paper = q })) (sym (zero-add n)) new)
