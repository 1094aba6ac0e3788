-- The search for a lot, place by place and by blocks of sixteen.
use Prim.Native.Nat.{ℕ, zero, suc, ◌+◌, ◌-◌, ◌≤◌, ◌<◌}
use native.Mathlib.Omega.{arith}
use Rattle.std.proofs.Math.Nat.{sub-zero, add-zero}
use Rattle.std.proofs.Common.{suc-add, zero-add, ◌∙◌, subst, ne_eqb, eqb-true}
use Rattle.std.specs.Prelude.{◌≡◌, Bool, eqb, get_or}
use Rattle.std.proofs.Math.Path.{refl, sym, ap}
use Rattle.std.proofs.Math.Bool.{true, false, cond, and-false}
use Rattle.std.proofs.lemmas.Bool.{eqb-false}
use Rattle.store_event.specs.declared.Key.{Key}
use Rattle.store_lots.specs.Memory.{Words, same_key_at, place_from}

-- none of the places before i has this key
pub record Looking (keys : Words) (k : Key) (from to i : ℕ) : Type 0 where
  pub low : from ≤ i
  pub high : i ≤ to
  pub same : place_from keys k from (to - from) ≡ place_from keys k i (to - i)

module _ (keys : Words) (k : Key) (from to : ℕ) where
  pub looking_start : from ≤ to → Looking keys k from to from
  looking_start h = record { low = omega arith; high = h; same = refl }

  module _ (i : ℕ) (g : Looking keys k from to i) where
    one_less : i < to → to - i ≡ suc (to - (i + 1))
    one_less h = omega arith

    pub looking_next : (t : Bool) → t ≡ same_key_at keys k i → t ≡ false → i < to → Looking keys k from to (i + 1)
    unfolding place_from
    looking_next t is e h = record { low = (let l = g.low in omega (arith, l)); high = omega arith; same = g.same ∙ rw (one_less h, sym is ∙ e) }

    pub looking_found : (t : Bool) → t ≡ same_key_at keys k i → t ≡ true → i < to → i ≡ place_from keys k from (to - from)
    unfolding place_from
    looking_found t is e h = sym (g.same ∙ rw (one_less h, sym is ∙ e))

    pub looking_end : to ≤ i → i ≡ place_from keys k from (to - from)
    unfolding place_from
    looking_end h = let z : to - i ≡ 0 = omega arith in sym (g.same ∙ rw z)

    pub looking_high : i ≤ to
    looking_high = g.high

pub ruleset looking_laws = (looking_start, looking_next, looking_found, looking_end, looking_high)

-- ---- Blocks without a word

-- none of the words from i to before j is this one
pub record Missed (keys : Words) (word i j : ℕ) : Type 0 where
  pub none : (m : ℕ) → i ≤ m → m < j → get_or keys m 0 ≡ word → ⊥

pub missed_start : (keys : Words) (word i : ℕ) → Missed keys word i (i + 0)
missed_start keys word i = record { none = λ m low high e. omega arith }

pub missed_next : (keys : Words) (word i n : ℕ) → Missed keys word i (i + n) → (get_or keys (i + n) 0 ≡ word → ⊥) → Missed keys word i (i + (n + 1))
missed_next keys word i n g ne = record { none = λ m low high e. go m low high e (eqb m (i + n)) refl }
  where
    go : (m : ℕ) → i ≤ m → m < i + (n + 1) → get_or keys m 0 ≡ word → (t : Bool) → eqb m (i + n) ≡ t → ⊥
    go m low high e true q = ne (subst (λ (j : ℕ). get_or keys j 0 ≡ word) (eqb-true m (i + n) q) e)
    go m low high e false q = let d = eqb-false m (i + n) q in g.none m low (omega arith) e

pub missed_all : (keys : Words) (word i n : ℕ) → Missed keys word i (i + n) → n ≤ 16 → 16 ≤ n → Missed keys word i (i + 16)
missed_all keys word i n g h l = let e : n ≡ 16 = omega arith in subst (λ (j : ℕ). Missed keys word i (i + j)) e g

module _ (keys : Words) (k : Key) where
  none_place : (i n : ℕ) → ((m : ℕ) → i ≤ m → m < i + n → same_key_at keys k m ≡ false) → place_from keys k i n ≡ i + n
  unfolding place_from
  none_place i zero g = sym (add-zero i)
  none_place i (suc n) g =
      let p = none_place (i + 1) n (λ m low high. g m (omega arith) (omega arith)) in
      rw (g i (omega arith) (omega arith)) (omega (arith, p))

  second_other : (m : ℕ) → (get_or keys (1024 + m) 0 ≡ k.second → ⊥) → same_key_at keys k m ≡ false
  unfolding same_key_at
  second_other m h = rw (ne_eqb (get_or keys (1024 + m) 0) k.second h)

  first_other : (m : ℕ) → (get_or keys (512 + m) 0 ≡ k.first → ⊥) → same_key_at keys k m ≡ false
  unfolding same_key_at
  first_other m h = rw (ne_eqb (get_or keys (512 + m) 0) k.first h) (and-false (eqb (get_or keys (1024 + m) 0) k.second))

  -- the search among n + m places: found among the first n, or else among the others
  place_front : (i n m : ℕ) → place_from keys k i n < i + n → place_from keys k i (n + m) ≡ place_from keys k i n
  unfolding place_from
  place_front i zero m h = absurd (omega arith)
  place_front i (suc n) m h = rw (suc-add n m) (go (same_key_at keys k i) h (place_front (i + 1) n m))
    where
      go : (t : Bool) → cond t i (place_from keys k (i + 1) n) < i + suc n →
          (place_from keys k (i + 1) n < i + 1 + n → place_from keys k (i + 1) (n + m) ≡ place_from keys k (i + 1) n) →
          cond t i (place_from keys k (i + 1) (n + m)) ≡ cond t i (place_from keys k (i + 1) n)
      go true l again = refl
      go false l again = again (omega arith)

  place_back : (i n m : ℕ) → i + n ≤ place_from keys k i n → place_from keys k i (n + m) ≡ place_from keys k (i + n) m
  unfolding place_from
  place_back i zero m h = rw (zero-add m, add-zero i)
  place_back i (suc n) m h = rw (suc-add n m) (go (same_key_at keys k i) h (place_back (i + 1) n m))
    where
      go : (t : Bool) → i + suc n ≤ cond t i (place_from keys k (i + 1) n) →
          (i + 1 + n ≤ place_from keys k (i + 1) n → place_from keys k (i + 1) (n + m) ≡ place_from keys k (i + 1 + n) m) →
          cond t i (place_from keys k (i + 1) (n + m)) ≡ place_from keys k (i + suc n) m
      go true l again = absurd (omega arith)
      go false l again = let e : i + 1 + n ≡ i + suc n = omega arith in again (omega arith) ∙ ap (λ (j : ℕ). place_from keys k j m) e

  pub second_missed : (i w : ℕ) → (w ≡ 0 → Missed keys k.second (1024 + i) (1024 + i + 16)) → w ≡ 0 → i + 16 ≡ place_from keys k i 16
  second_missed i w g h = sym (none_place i 16 (λ m low high. second_other m ((g h).none (1024 + m) (omega arith) (omega arith))))

  pub first_missed : (i w : ℕ) → (w ≡ 0 → Missed keys k.first (512 + i) (512 + i + 16)) → w ≡ 0 → i + 16 ≡ place_from keys k i 16
  first_missed i w g h = sym (none_place i 16 (λ m low high. first_other m ((g h).none (512 + m) (omega arith) (omega arith))))

  pub block_in : (i lot : ℕ) → lot ≡ place_from keys k i (i + 16 - i) → lot ≡ place_from keys k i 16
  block_in i lot h = let e : i + 16 - i ≡ 16 = omega arith in h ∙ ap (place_from keys k i) e

  -- ---- All lots

  module _ (lots i lot : ℕ) (g : Looking keys k 0 lots i) where
    all_lots : place_from keys k 0 lots ≡ place_from keys k i (lots - i)
    all_lots = ap (place_from keys k 0) (sym (sub-zero lots)) ∙ g.same

    module _ (is : lot ≡ place_from keys k i 16) (room : 16 ≤ lots - i) where
      two : lots - i ≡ 16 + (lots - (i + 16))
      two = omega arith

      pub block_found : lot < i + 16 → lot ≡ place_from keys k 0 lots
      block_found h = sym (all_lots ∙ ap (place_from keys k i) two ∙ place_front i 16 (lots - (i + 16)) (omega (arith, is)) ∙ sym is)

      pub block_next : i + 16 ≤ lot → Looking keys k 0 lots (i + 16)
      block_next h = record {
        low = omega arith;
        high = omega arith;
        same = g.same ∙ ap (place_from keys k i) two ∙ place_back i 16 (lots - (i + 16)) (omega (arith, is));
      }

    pub block_rest : lot ≡ place_from keys k i (lots - i) → lot ≡ place_from keys k 0 lots
    block_rest h = h ∙ sym all_lots

pub ruleset block_laws = (looking_start, looking_high, second_missed, first_missed, block_in, block_found, block_next, block_rest)
