-- Pairs entered in the rows, one after the other, each by its key and in the rows of both its ends: the rows then say the pairs.
use Rattle.std.specs.Prelude.{ℕ, suc, ◌+◌, ◌-◌, ◌*◌, ◌/◌, ◌%◌, ◌≤◌, ◌<◌, ◌^◌, ◌≡◌, refl, Bool, true, false, cond, ◌&&◌, ◌||◌, eqb, ltb, length, set}
use Rattle.std.proofs.Common.{arith, ◌∙◌, subst, drop-set-lt, get_or-set_same, get_or-set_other, eq-eqb, ne_eqb, eqb-true, ltb-true, ltb-false}
use Rattle.std.proofs.Math.Path.{sym, ap}
use mathlib.Core.List.{List, [], ◌∷◌}
use Rattle.std.proofs.Math.ListN.{get_or, drop}
use Rattle.std.proofs.Math.Seq.{set_out}
use Rattle.std.proofs.lemmas.Bool.{eqb-false}
use Rattle.rules.specs.Forms.{Bond}
use Rattle.rules.specs.Record.{limit}
use Rattle.sets_words.specs.Bits.{bit_at, has_bit, word_with, with_bit, in_row}
use Rattle.sets_words.specs.Members.{put_length, zero_word}
use Rattle.sets_words.specs.Fresh.{fresh_fits}
use Rattle.judge_line.specs.Field.{elem}
use Rattle.reader_pairs.specs.Keys.{pair_key, key_of, keys_of, SmallEnds, AllSmall}
use Rattle.reader_rows.specs.Says.{row_places, joins, joined, Says}
use Rattle.reader_rows.specs.Marked.{with_pair, with_key, PairKey, pair_has, Words, marked, AllPairs, Blank}

-- ---- One pair

pub pair_length : (ws : List ℕ) (a b : ℕ) → length (with_pair ws a b) ≡ length ws
unfolding with_pair
pair_length ws a b = put_length (with_bit ws (in_row a b)) (in_row b a) ∙ put_length ws (in_row a b)

put_past : (ws : List ℕ) (a b : ℕ) → a ≤ limit → b ≤ limit → drop row_places (with_bit ws (in_row a b)) ≡ drop row_places ws
unfolding with_bit
put_past ws a b ha hb = drop-set-lt row_places ws (in_row a b / 64) (word_with (get_or ws (in_row a b / 64) 0) (in_row a b % 64)) (omega arith)

pair_past : (ws : List ℕ) (a b : ℕ) → a ≤ limit → b ≤ limit → drop row_places (with_pair ws a b) ≡ drop row_places ws
unfolding with_pair
pair_past ws a b ha hb = put_past (with_bit ws (in_row a b)) b a hb ha ∙ put_past ws a b ha hb

-- ---- Words

word_fits : (w k : ℕ) → k < 64 → w < 2 ^ 64 → word_with w k < 2 ^ 64
unfolding word_with
word_fits w k few h = go (eqb (w / 2 ^ k % 2) 1) refl
  where
    go : (t : Bool) → eqb (w / 2 ^ k % 2) 1 ≡ t → cond t w (w + 2 ^ k) < 2 ^ 64
    go true e = h
    go false e =
        let n = eqb-false (w / 2 ^ k % 2) 1 e in
        let bit : w / 2 ^ k % 2 ≡ 0 = omega arith in
        let j : suc (63 - k) + k ≡ 64 = omega arith in
        subst (λ (i : ℕ). w + 2 ^ k < 2 ^ i) j (fresh_fits w k bit (63 - k) (subst (λ (i : ℕ). w < 2 ^ i) (sym j) h))

words_put : (ws : List ℕ) (i : ℕ) → Words ws → Words (with_bit ws i)
unfolding with_bit
words_put ws i g = record { below = λ j h. go j h (eqb j (i / 64)) refl }
  where
    w : ℕ
    w = word_with (get_or ws (i / 64) 0) (i % 64)

    fits : i / 64 < row_places → w < 2 ^ 64
    fits h = word_fits (get_or ws (i / 64) 0) (i % 64) (omega arith) (g.below (i / 64) h)

    at : (t : Bool) → ltb (i / 64) (length ws) ≡ t → i / 64 < row_places → get_or (set ws (i / 64) w) (i / 64) 0 < 2 ^ 64
    at true e h = rw (get_or-set_same ws (i / 64) w 0 (ltb-true (i / 64) (length ws) e)) (fits h)
    at false e h = rw (set_out ws (i / 64) w (ltb-false (i / 64) (length ws) e)) (g.below (i / 64) h)

    go : (j : ℕ) → j < row_places → (t : Bool) → eqb j (i / 64) ≡ t → get_or (set ws (i / 64) w) j 0 < 2 ^ 64
    go j h true e =
        let p = eqb-true j (i / 64) e in
        subst (λ (k : ℕ). get_or (set ws (i / 64) w) k 0 < 2 ^ 64) (sym p) (at (ltb (i / 64) (length ws)) refl (subst (λ (k : ℕ). k < row_places) p h))
    go j h false e = rw (get_or-set_other ws (i / 64) j w 0 (eqb-false j (i / 64) e)) (g.below j h)

words_pair : (ws : List ℕ) (a b : ℕ) → Words ws → Words (with_pair ws a b)
unfolding with_pair
words_pair ws a b g = words_put (with_bit ws (in_row a b)) (in_row b a) (words_put ws (in_row a b) g)

-- ---- Pairs one after the other

pub marked_length : (ws ks : List ℕ) → length (marked ws ks) ≡ length ws
unfolding marked
marked_length ws [] = refl
marked_length ws (k ∷ ks) = marked_length (with_key ws k) ks ∙ pair_length ws (k / 1024) (k % 1024)

pub marked_past : (ws ks : List ℕ) → AllPairs ks → drop row_places (marked ws ks) ≡ drop row_places ws
unfolding marked AllPairs
marked_past ws [] h = refl
marked_past ws (k ∷ ks) h =
    marked_past (with_key ws k) ks h.1 ∙ pair_past ws (k / 1024) (k % 1024) (omega (arith, h.0.ordered, h.0.high)) h.0.high

pub marked_words : (ws ks : List ℕ) → Words ws → Words (marked ws ks)
unfolding marked
marked_words ws [] g = g
marked_words ws (k ∷ ks) g = marked_words (with_key ws k) ks (words_pair ws (k / 1024) (k % 1024) g)

-- the pair with this key is that of a and b
abbrev joins_key : ℕ → ℕ → ℕ → Bool
joins_key a b k = (eqb a (k / 1024) && eqb b (k % 1024)) || (eqb a (k % 1024) && eqb b (k / 1024))

unfoldable joined_keys : ℕ → ℕ → List ℕ → Bool
joined_keys a b [] = false
joined_keys a b (k ∷ ks) = cond (joins_key a b k) true (joined_keys a b ks)

-- exactly these pairs are said more
marked_has : (ws ks : List ℕ) (a b : ℕ) → AllPairs ks → row_places ≤ length ws → 1 ≤ a → 1 ≤ b → b ≤ 1024 →
    has_bit (marked ws ks) (in_row a b) ≡ (joined_keys a b ks || has_bit ws (in_row a b))
unfolding marked AllPairs joined_keys
marked_has ws [] a b h room la lb hb = refl
marked_has ws (k ∷ ks) a b h room la lb hb =
    marked_has (with_key ws k) ks a b h.1 (omega (arith, pair_length ws (k / 1024) (k % 1024))) la lb hb
    ∙ ap (λ (t : Bool). joined_keys a b ks || t)
    (pair_has ws (k / 1024) (k % 1024) a b h.0.low (omega (arith, h.0.ordered, h.0.high)) (omega (arith, h.0.low, h.0.ordered)) h.0.high room la lb hb)
    ∙ go (joins_key a b k) (joined_keys a b ks)
  where
    go : (s t : Bool) → (t || (s || has_bit ws (in_row a b))) ≡ (cond s true t || has_bit ws (in_row a b))
    go true true = refl
    go true false = refl
    go false true = refl
    go false false = refl

-- ---- Keys

key_joins : (a b : ℕ) (c : Bond) → SmallEnds c → joins_key a b (key_of c) ≡ joins a b c
unfolding pair_key
key_joins a b c h = go (ltb c.first c.second)
  where
    swap : (s t : Bool) → (s || t) ≡ (t || s)
    swap true true = refl
    swap true false = refl
    swap false true = refl
    swap false false = refl

    go : (t : Bool) → joins_key a b (cond t (1024 * c.first + c.second) (1024 * c.second + c.first)) ≡ joins a b c
    go true =
        let p : (1024 * c.first + c.second) / 1024 ≡ c.first = omega (arith, h.first, h.second) in
        let q : (1024 * c.first + c.second) % 1024 ≡ c.second = omega (arith, h.first, h.second) in
        rw (p, q)
    go false =
        let p : (1024 * c.second + c.first) / 1024 ≡ c.second = omega (arith, h.first, h.second) in
        let q : (1024 * c.second + c.first) % 1024 ≡ c.first = omega (arith, h.first, h.second) in
        rw (p, q) (swap (eqb a c.second && eqb b c.first) (eqb a c.first && eqb b c.second))

keys_joined : (a b : ℕ) (bs : List Bond) → AllSmall bs → joined_keys a b (keys_of bs) ≡ joined a b bs
unfolding joined_keys joined AllSmall
keys_joined a b [] h = refl
keys_joined a b (c ∷ bs) h = rw (key_joins a b c h.0, keys_joined a b bs h.1)

-- a pair's key is that of no other pair
same_key : (key k : ℕ) → PairKey key → PairKey k → joins_key (key / 1024) (key % 1024) k ≡ eqb key k
same_key key k g h = go (eqb (key / 1024) (k / 1024)) refl (eqb (key % 1024) (k % 1024)) refl (eqb (key / 1024) (k % 1024)) refl (eqb (key % 1024) (k / 1024)) refl
  where
    is : key ≡ k → eqb key k ≡ true
    is e = eq-eqb key k e

    not : (key ≡ k → ⊥) → eqb key k ≡ false
    not n = ne_eqb key k n

    go : (s : Bool) → eqb (key / 1024) (k / 1024) ≡ s → (t : Bool) → eqb (key % 1024) (k % 1024) ≡ t → (u : Bool) → eqb (key / 1024) (k % 1024) ≡ u →
        (v : Bool) → eqb (key % 1024) (k / 1024) ≡ v → ((s && t) || (u && v)) ≡ eqb key k
    go true es true et u eu v ev =
        let p = eqb-true (key / 1024) (k / 1024) es in
        let q = eqb-true (key % 1024) (k % 1024) et in
        sym (is (omega arith))
    go true es false et true eu true ev =
        let p = eqb-true (key / 1024) (k / 1024) es in
        let q = eqb-true (key / 1024) (k % 1024) eu in
        let r = eqb-true (key % 1024) (k / 1024) ev in
        let n = eqb-false (key % 1024) (k % 1024) et in
        absurd (omega arith)
    go true es false et true eu false ev = let n = eqb-false (key % 1024) (k % 1024) et in sym (not (λ e. n (ap (λ (x : ℕ). x % 1024) e)))
    go true es false et false eu v ev = let n = eqb-false (key % 1024) (k % 1024) et in sym (not (λ e. n (ap (λ (x : ℕ). x % 1024) e)))
    go false es t et true eu true ev =
        let n = eqb-false (key / 1024) (k / 1024) es in
        let q = eqb-true (key / 1024) (k % 1024) eu in
        let r = eqb-true (key % 1024) (k / 1024) ev in
        absurd (n (omega (arith, g.ordered, h.ordered)))
    go false es t et true eu false ev = let n = eqb-false (key / 1024) (k / 1024) es in sym (off t (λ e. n (ap (λ (x : ℕ). x / 1024) e)))
      where
        off : (t : Bool) → (key ≡ k → ⊥) → eqb key k ≡ ((false && t) || (true && false))
        off true m = not m
        off false m = not m
    go false es t et false eu v ev = let n = eqb-false (key / 1024) (k / 1024) es in sym (off t v (λ e. n (ap (λ (x : ℕ). x / 1024) e)))
      where
        off : (t v : Bool) → (key ≡ k → ⊥) → eqb key k ≡ ((false && t) || (false && v))
        off true v m = not m
        off false v m = not m

keys_elem : (key : ℕ) (ks : List ℕ) → PairKey key → AllPairs ks → joined_keys (key / 1024) (key % 1024) ks ≡ elem key ks
unfolding joined_keys elem AllPairs
keys_elem key [] g h = refl
keys_elem key (k ∷ ks) g h = rw (same_key key k g h.0, keys_elem key ks g h.1)

-- ---- From empty rows on

blank_has : (ws : List ℕ) → Blank ws → (a b : ℕ) → 1 ≤ a → a ≤ limit → 1 ≤ b → b ≤ 1024 → has_bit ws (in_row a b) ≡ false
unfolding has_bit bit_at
blank_has ws g a b la ha lb hb = zero_word (in_row a b % 64) (get_or ws (in_row a b / 64) 0) (g.zeros (in_row a b / 64) (omega arith))

blank_words : (ws : List ℕ) → Blank ws → Words ws
blank_words ws g = record { below = λ i h. subst (λ (w : ℕ). w < 2 ^ 64) (sym (g.zeros i h)) (omega arith) }

or_none : (s t : Bool) → t ≡ false → (s || t) ≡ s
or_none true t e = refl
or_none false t e = e

module _ (ws ks : List ℕ) (empty : Blank ws) (room : row_places ≤ length ws) (all : AllPairs ks) where
  has : (a b : ℕ) → 1 ≤ a → a ≤ limit → 1 ≤ b → b ≤ 1024 → has_bit (marked ws ks) (in_row a b) ≡ joined_keys a b ks
  has a b la ha lb hb = marked_has ws ks a b all room la lb hb ∙ or_none (joined_keys a b ks) (has_bit ws (in_row a b)) (blank_has ws empty a b la ha lb hb)

  -- the rows are asked where the keys would be searched
  pub marked_asks : (key : ℕ) → PairKey key → has_bit (marked ws ks) (in_row (key / 1024) (key % 1024)) ≡ elem key ks
  marked_asks key g =
      has (key / 1024) (key % 1024) g.low (omega (arith, g.ordered, g.high)) (omega (arith, g.low, g.ordered)) (omega (arith, g.high))
      ∙ keys_elem key ks g all

  -- after every bond rows and list say the same pairs
  pub marked_says : (bs : List Bond) → AllSmall bs → ks ≡ keys_of bs → Says (marked ws ks) bs
  marked_says bs small e =
      record {
        words = (marked_words ws ks (blank_words ws empty)).below;
        pairs = λ a b la ha lb hb. has a b la ha lb hb ∙ ap (joined_keys a b) e ∙ keys_joined a b bs small;
      }
