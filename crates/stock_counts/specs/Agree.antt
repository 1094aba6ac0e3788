-- A note keeps its promise.
use Prim.Native.Nat.{ℕ, suc, ◌+◌, ◌≤◌, ◌<◌}
use native.Mathlib.Omega.{arith}
use Rattle.std.proofs.Common.{add-zero, zero-add, ◌∙◌, true≢false, length-set, get_or-set_same, get_or-set_other}
use Rattle.std.specs.Prelude.{◌≡◌, ◌≢◌, Bool, length, get_or, set, ℤ, pos, ◌-ℤ◌}
use Rattle.std.proofs.Math.Path.{refl, sym, ap, subst}
use mathlib.Core.List.{List, [], ◌∷◌, ◌++◌}
use Rattle.std.proofs.Math.Bool.{true, false, cond}
use Rattle.std.proofs.lemmas.Bool.{false≢true}
use borrow.Author.Tests.{lt-ltb, le-ltb}
use Rattle.store_log.specs.Log.{Bytes, Kind, Event}
use Rattle.store_log.specs.Store.{Store, same_bytes, known, place_of, most_lots, Told}
use Rattle.store_log.proofs.Lots.{same_bytes_lem}
use Rattle.store_log.specs.Entries.{OneEach}
use Rattle.store_event.specs.declared.Key.{Key}
use Rattle.store_event.specs.Scan.{key_at}
use Rattle.store_event.specs.Twelve.{Twelve}
use Rattle.store_lots.specs.Memory.{Words, place_from}
use Rattle.store_lots.specs.Places.{place_is, known_is}
use Rattle.stock_rules.specs.Join.{Count, count_by, later, last_count}
use Rattle.stock_rules.specs.Lots.{place_below}
use Rattle.stock_counts.specs.Note.{count_at, noted}
use Rattle.stock_counts.specs.Stands.{CountIs, CountsFrom}
use Rattle.stock_counts.specs.Promise.{Ready, Promise}

-- ---- One event more at the end

later_none : (c : Count) → later Count.none c ≡ c
later_none Count.none = refl
later_none (Count.counted shelf d) = refl

later_last : (a b c : Count) → later a (later b c) ≡ later (later a b) c
later_last a b Count.none = refl
later_last a b (Count.counted shelf d) = refl

last_more : (k : Bytes) (vs : List Event) (ts : List Told) (v : Event) (t : Told) → length ts ≡ length vs →
    last_count k (vs ++ (v ∷ [])) (ts ++ (t ∷ [])) ≡ later (last_count k vs ts) (count_by k v t)
unfolding last_count
last_more k [] [] v t h = sym (later_none (count_by k v t))
last_more k [] (s ∷ ts) v t h = absurd (omega arith)
last_more k (u ∷ vs) [] v t h = absurd (omega arith)
last_more k (u ∷ vs) (s ∷ ts) v t h =
    ap (later (count_by k u s)) (last_more k vs ts v t (omega arith)) ∙ later_last (count_by k u s) (last_count k vs ts) (count_by k v t)

-- ---- One lot

abbrev Same : Words → Words → ℕ → Type 0
Same counts cs j = (get_or cs j 0 ≡ get_or counts j 0) × (get_or cs (512 + j) 0 ≡ get_or counts (512 + j) 0)

count_same : (counts cs : Words) (j : ℕ) {c : Count} → Same counts cs j → CountIs counts j c → CountIs cs j c
count_same counts cs j s (CountIs.none h) = CountIs.none (s.0 ∙ h)
count_same counts cs j s (CountIs.counted {shelf = shelf} h) =
    subst (λ (n : ℕ). CountIs cs j (Count.counted shelf (pos n -ℤ pos shelf))) s.1 (CountIs.counted (s.0 ∙ h))

module _ (counts : Words) (lot paper shelf : ℕ) (low : lot < 512) where
  beside : (j : ℕ) → j < 512 → j ≢ lot → Same counts (count_at counts lot paper shelf) j
  beside j h n = (other j (λ e. omega (arith, e)) n, other (512 + j) (λ e. n (omega (arith, e))) (λ e. omega (arith, e)))
    where
      other : (i : ℕ) → i ≢ 512 + lot → i ≢ lot → get_or (count_at counts lot paper shelf) i 0 ≡ get_or counts i 0
      other i a b = get_or-set_other (set counts lot (shelf + 1)) (512 + lot) i paper 0 a ∙ get_or-set_other counts lot i (shelf + 1) 0 b

  there : length counts ≡ 1024 → CountIs (count_at counts lot paper shelf) lot (Count.counted shelf (pos paper -ℤ pos shelf))
  there room =
      let l = length-set counts lot (shelf + 1) in
      let first : get_or (count_at counts lot paper shelf) lot 0 ≡ shelf + 1 =
      get_or-set_other (set counts lot (shelf + 1)) (512 + lot) lot paper 0 (λ e. omega (arith, e)) ∙ get_or-set_same counts lot (shelf + 1) 0 (omega arith) in
      let second : get_or (count_at counts lot paper shelf) (512 + lot) 0 ≡ paper = get_or-set_same (set counts lot (shelf + 1)) (512 + lot) paper 0 (omega arith) in
      subst (λ (n : ℕ). CountIs (count_at counts lot paper shelf) lot (Count.counted shelf (pos n -ℤ pos shelf))) second (CountIs.counted first)

-- ---- All lots

module _ (key : Bytes) (q place paper shelf : ℕ) (vs : List Event) (ts : List Told) (lengths : length ts ≡ length vs) where
  abbrev d : ℤ
  d = pos paper -ℤ pos shelf

  abbrev event : Event
  event = Event.scan Kind.counted key q

  abbrev told : Told
  told = Told.counted place paper shelf d

  own : (k : Bytes) → same_bytes key k ≡ true → last_count k (vs ++ (event ∷ [])) (ts ++ (told ∷ [])) ≡ Count.counted shelf d
  own k h = last_more k vs ts event told lengths ∙ rw h

  others : (k : Bytes) → same_bytes key k ≡ false → last_count k (vs ++ (event ∷ [])) (ts ++ (told ∷ [])) ≡ last_count k vs ts
  others k h = last_more k vs ts event told lengths ∙ rw h

  never_noted : (counts cs : Words) (i : ℕ) (ls : Store) → ((j : ℕ) → i ≤ j → j < i + length ls → Same counts cs j) → known key ls ≡ false →
      CountsFrom counts i ls vs ts → CountsFrom cs i ls (vs ++ (event ∷ [])) (ts ++ (told ∷ []))
  unfolding known CountsFrom
  never_noted counts cs i [] a h g = tt
  never_noted counts cs i (l ∷ ls) a h g = go (same_bytes key l.key) refl h (λ k. never_noted counts cs (i + 1) ls (λ j low high. a j (omega arith) (omega arith)) k g.1)
    where
      go : (b : Bool) → same_bytes key l.key ≡ b → cond b true (known key ls) ≡ false → (known key ls ≡ false → CountsFrom cs (i + 1) ls (vs ++ (event ∷ [])) (ts ++ (told ∷ []))) →
          CountIs cs i (last_count l.key (vs ++ (event ∷ [])) (ts ++ (told ∷ []))) × CountsFrom cs (i + 1) ls (vs ++ (event ∷ [])) (ts ++ (told ∷ []))
      go true e k again = absurd (true≢false k)
      go false e k again = (subst (CountIs cs i) (sym (others l.key e)) (count_same counts cs i (a i (omega arith) (omega arith)) g.0), again k)

  known_noted : (counts : Words) → length counts ≡ 1024 → (i : ℕ) (ls : Store) → i + length ls ≤ 512 → OneEach ls → known key ls ≡ true → CountsFrom counts i ls vs ts →
      CountsFrom (count_at counts (i + place_of key ls) paper shelf) i ls (vs ++ (event ∷ [])) (ts ++ (told ∷ []))
  unfolding OneEach known place_of CountsFrom
  known_noted counts room i [] w o h g = absurd (false≢true h)
  known_noted counts room i (l ∷ ls) w o h g = go (same_bytes key l.key) refl h (λ k. known_noted counts room (i + 1) ls (omega arith) o.1 k g.1)
    where
      go : (b : Bool) → same_bytes key l.key ≡ b → cond b true (known key ls) ≡ true →
          (known key ls ≡ true → CountsFrom (count_at counts (i + 1 + place_of key ls) paper shelf) (i + 1) ls (vs ++ (event ∷ [])) (ts ++ (told ∷ []))) →
          CountIs (count_at counts (i + cond b 0 (suc (place_of key ls))) paper shelf) i (last_count l.key (vs ++ (event ∷ [])) (ts ++ (told ∷ []))) ×
          CountsFrom (count_at counts (i + cond b 0 (suc (place_of key ls))) paper shelf) (i + 1) ls (vs ++ (event ∷ [])) (ts ++ (told ∷ []))
      go true e k again =
          let z : known key ls ≡ false = ap (λ (x : Bytes). known x ls) (same_bytes_lem key l.key e) ∙ o.0 in
          rw (add-zero i) (
            subst (CountIs (count_at counts i paper shelf) i) (sym (own l.key e)) (there counts i paper shelf (omega arith) room),
            never_noted counts (count_at counts i paper shelf) (i + 1) ls (λ j low high. beside counts i paper shelf (omega arith) j (omega arith) (λ p. omega (arith, p))) z g.1,
          )
      go false e k again =
          let p : i + suc (place_of key ls) ≡ i + 1 + place_of key ls = omega arith in
          let lot = i + 1 + place_of key ls in
          let low = place_below key ls k in
          rw p (
            subst (CountIs (count_at counts lot paper shelf) i) (sym (others l.key e))
                (count_same counts (count_at counts lot paper shelf) i (beside counts lot paper shelf (omega arith) i (omega arith) (λ x. omega (arith, x))) g.0),
            again k,
          )

-- ---- The promise

noted_is : (keys : Words) (lots : ℕ) (counts : Words) (ls : Store) → Ready keys lots counts ls → (key : Bytes) → Twelve key → (paper shelf : ℕ) →
    noted (key_at key 0) paper shelf keys lots counts ≡ cond (known key ls) (count_at counts (place_of key ls) paper shelf) counts
unfolding noted
noted_is keys lots counts ls r key w paper shelf =
    let p = place_is keys r.papers key w ls r.holds in
    let n = known_is keys r.papers key w ls r.holds r.few r.papers_room in
    rw (r.lots_are, le-ltb most_lots (length ls) r.few, n, p)

pub promised : (k : Key) (paper shelf : ℕ) (keys : Words) (lots : ℕ) (counts after : Words) → after ≡ noted k paper shelf keys lots counts → Promise k paper shelf keys lots counts after
promised k paper shelf keys lots counts after e = record {
  answer = e;
  more = λ ls r vs ts h g key w q n place.
      let is : after ≡ cond (known key ls) (count_at counts (place_of key ls) paper shelf) counts =
      e ∙ ap (λ (x : Key). noted x paper shelf keys lots counts) q ∙ noted_is keys lots counts ls r key w paper shelf in
      subst (λ (cs : Words). CountsFrom cs 0 ls (vs ++ (Event.scan Kind.counted key n ∷ [])) (ts ++ (Told.counted place paper shelf (pos paper -ℤ pos shelf) ∷ []))) (sym is)
      (by ls r vs ts h g key n place);
}
  where
    by : (ls : Store) → Ready keys lots counts ls → (vs : List Event) (ts : List Told) → length ts ≡ length vs → CountsFrom counts 0 ls vs ts → (key : Bytes) (n place : ℕ) →
        CountsFrom (cond (known key ls) (count_at counts (place_of key ls) paper shelf) counts) 0 ls (vs ++ (Event.scan Kind.counted key n ∷ []))
        (ts ++ (Told.counted place paper shelf (pos paper -ℤ pos shelf) ∷ []))
    by ls r vs ts h g key n place = go (known key ls) refl
      where
        go : (b : Bool) → known key ls ≡ b →
            CountsFrom (cond b (count_at counts (place_of key ls) paper shelf) counts) 0 ls (vs ++ (Event.scan Kind.counted key n ∷ []))
            (ts ++ (Told.counted place paper shelf (pos paper -ℤ pos shelf) ∷ []))
        go true e =
            let few = r.few in
            subst (λ (i : ℕ). CountsFrom (count_at counts i paper shelf) 0 ls (vs ++ (Event.scan Kind.counted key n ∷ [])) (ts ++ (Told.counted place paper shelf (pos paper -ℤ pos shelf) ∷ [])))
            (zero-add (place_of key ls)) (known_noted key n place paper shelf vs ts h counts r.room 0 ls (omega arith) r.each e g)
        go false e = never_noted key n place paper shelf vs ts h counts counts 0 ls (λ j low high. (refl, refl)) e g

-- ---- Ends of the code

module _ (k : Key) (paper shelf : ℕ) (keys : Words) (lots : ℕ) (counts : Words) where
  pub note_many : most_lots < lots → Promise k paper shelf keys lots counts counts
  unfolding noted
  note_many h = promised k paper shelf keys lots counts counts (rw (lt-ltb most_lots lots h))

  module _ (few : lots ≤ most_lots) (lot : ℕ) (is : lot ≡ place_from keys k 0 lots) where
    pub note_never : lots ≤ lot → Promise k paper shelf keys lots counts counts
    unfolding noted
    note_never h = promised k paper shelf keys lots counts counts (rw (le-ltb most_lots lots few, sym is, le-ltb lot lots h))

    pub note_lot : lot < lots → (w : ℕ) → w ≡ shelf → Promise k paper shelf keys lots counts (set (set counts lot (w + 1)) (512 + lot) paper)
    unfolding noted
    note_lot h w e = promised k paper shelf keys lots counts (set (set counts lot (w + 1)) (512 + lot) paper) (rw (e, le-ltb most_lots lots few, sym is, lt-ltb lot lots h))

pub ruleset note_laws = (note_many, note_never, note_lot)
