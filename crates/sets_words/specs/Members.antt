-- What a set holds after a number was put in, and how many numbers it holds.
use Rattle.std.specs.Prelude.{ℕ, zero, suc, ◌+◌, ◌*◌, ◌/◌, ◌%◌, ◌^◌, ◌≤◌, ◌<◌, ◌≡◌, Bool, ◌||◌, ◌&&◌, length, set, replicate}
use Rattle.std.proofs.Common.{mod-lt, mod-eq_of_lt, sym, ◌∙◌, length-set, get_or-set_same, get_or-set_other, pow_pos}
use Rattle.std.proofs.Math.Nat.{zero-div}
use native.Mathlib.Omega.{arith}
use Rattle.std.proofs.Math.Path.{refl, ap, subst}
use mathlib.Core.List.{List}
use Rattle.std.proofs.Math.Bool.{true, false}
use Rattle.std.proofs.Math.Dec.{eqb, ltb}
use Rattle.std.proofs.Math.ListN.{get_or, get_or-eq_default}
use Rattle.std.proofs.lemmas.List.{get_or-replicate, length-replicate, set-get_or}
use Rattle.std.proofs.lemmas.Nat.{mod-pow-add, ones_cat}
use Rattle.std.specs.Int.Count.{ones}
use borrow.Author.Tests.{eq-eqb, ne_eqb, eqb-true, eqb-false, ltb-true, ltb-false}
use Rattle.sets_words.specs.Bits.{bit_at, has_bit, word_with, with_bit, in_row}
use Rattle.sets_words.specs.HowMany.{how_many, many_hit, many_miss, many_same}
use Rattle.sets_words.specs.Fresh.{set_bit, below_bit, above_bit}

-- ---- Put

bit_two : (ws : List ℕ) (i : ℕ) → bit_at ws i < 2
unfolding bit_at
bit_two ws i = omega arith

pub bit_zero : (ws : List ℕ) (i : ℕ) → has_bit ws i ≡ false → bit_at ws i ≡ 0
unfolding has_bit
bit_zero ws i e = let n = eqb-false (bit_at ws i) 1 e in omega (arith, bit_two ws i)

pub word_there : (w k : ℕ) → w / 2 ^ k % 2 ≡ 1 → w ≡ word_with w k
unfolding word_with
word_there w k e = rw (eq-eqb (w / 2 ^ k % 2) 1 e)

pub word_new : (w k : ℕ) → (w / 2 ^ k % 2 ≡ 1 → ⊥) → w + 2 ^ k ≡ word_with w k
unfolding word_with
word_new w k n = rw (ne_eqb (w / 2 ^ k % 2) 1 n)

with_there : (ws : List ℕ) (i : ℕ) → has_bit ws i ≡ true → with_bit ws i ≡ ws
unfolding with_bit has_bit bit_at
with_there ws i e =
    ap (set ws (i / 64)) (sym (word_there (get_or ws (i / 64) 0) (i % 64) (eqb-true (get_or ws (i / 64) 0 / 2 ^ (i % 64) % 2) 1 e))) ∙ set-get_or ws (i / 64) 0

with_new : (ws : List ℕ) (i : ℕ) → has_bit ws i ≡ false → with_bit ws i ≡ set ws (i / 64) (get_or ws (i / 64) 0 + 2 ^ (i % 64))
unfolding with_bit has_bit bit_at
with_new ws i e = ap (set ws (i / 64)) (sym (word_new (get_or ws (i / 64) 0) (i % 64) (eqb-false (get_or ws (i / 64) 0 / 2 ^ (i % 64) % 2) 1 e)))

module _ (ws : List ℕ) (i : ℕ) (within : i < 64 * length ws) (free : has_bit ws i ≡ false) where
  at : i / 64 < length ws
  at = omega arith

  bit_free : get_or ws (i / 64) 0 / 2 ^ (i % 64) % 2 ≡ 0
  unfolding bit_at
  bit_free = bit_zero ws i free

  bit_now : bit_at (with_bit ws i) i ≡ 1
  unfolding bit_at
  bit_now =
      ap (λ (vs : List ℕ). get_or vs (i / 64) 0 / 2 ^ (i % 64) % 2) (with_new ws i free)
      ∙ ap (λ (v : ℕ). v / 2 ^ (i % 64) % 2) (get_or-set_same ws (i / 64) (get_or ws (i / 64) 0 + 2 ^ (i % 64)) 0 at)
      ∙ set_bit (get_or ws (i / 64) 0) (i % 64) bit_free

  same_word : (j : ℕ) → j / 64 ≡ i / 64 → (j ≡ i → ⊥) → bit_at (with_bit ws i) j ≡ bit_at ws j
  unfolding bit_at
  same_word j e n =
      ap (λ (vs : List ℕ). get_or vs (j / 64) 0 / 2 ^ (j % 64) % 2) (with_new ws i free)
      ∙ ap (λ (p : ℕ). get_or (set ws (i / 64) (get_or ws (i / 64) 0 + 2 ^ (i % 64))) p 0 / 2 ^ (j % 64) % 2) e
      ∙ ap (λ (v : ℕ). v / 2 ^ (j % 64) % 2) (get_or-set_same ws (i / 64) (get_or ws (i / 64) 0 + 2 ^ (i % 64)) 0 at)
      ∙ go (ltb (j % 64) (i % 64)) refl
      ∙ ap (λ (p : ℕ). get_or ws p 0 / 2 ^ (j % 64) % 2) (sym e)
    where
      go : (t : Bool) → ltb (j % 64) (i % 64) ≡ t → (get_or ws (i / 64) 0 + 2 ^ (i % 64)) / 2 ^ (j % 64) % 2 ≡ get_or ws (i / 64) 0 / 2 ^ (j % 64) % 2
      go true q = below_bit (get_or ws (i / 64) 0) (i % 64) bit_free (j % 64) (ltb-true (j % 64) (i % 64) q)
      go false q =
          let l = ltb-false (j % 64) (i % 64) q in
          let h : i % 64 < j % 64 = omega arith in
          above_bit (get_or ws (i / 64) 0) (i % 64) bit_free (j % 64) h

  other_word : (j : ℕ) → (j / 64 ≡ i / 64 → ⊥) → bit_at (with_bit ws i) j ≡ bit_at ws j
  unfolding bit_at
  other_word j n =
      ap (λ (vs : List ℕ). get_or vs (j / 64) 0 / 2 ^ (j % 64) % 2) (with_new ws i free)
      ∙ ap (λ (v : ℕ). v / 2 ^ (j % 64) % 2) (get_or-set_other ws (i / 64) (j / 64) (get_or ws (i / 64) 0 + 2 ^ (i % 64)) 0 n)

  free_has : (j : ℕ) → has_bit (with_bit ws i) j ≡ (eqb j i || has_bit ws j)
  unfolding has_bit
  free_has j = go (eqb j i) refl (eqb (j / 64) (i / 64)) refl
    where
      go : (t : Bool) → eqb j i ≡ t → (s : Bool) → eqb (j / 64) (i / 64) ≡ s → has_bit (with_bit ws i) j ≡ (t || has_bit ws j)
      go true e s f = let h = eqb-true j i e in subst (λ (k : ℕ). eqb (bit_at (with_bit ws i) k) 1 ≡ true) (sym h) (eq-eqb (bit_at (with_bit ws i) i) 1 bit_now)
      go false e true f = ap (λ (b : ℕ). eqb b 1) (same_word j (eqb-true (j / 64) (i / 64) f) (eqb-false j i e))
      go false e false f = ap (λ (b : ℕ). eqb b 1) (other_word j (eqb-false (j / 64) (i / 64) f))

-- exactly i is a member more
pub put_has : (ws : List ℕ) (i j : ℕ) → i < 64 * length ws → has_bit (with_bit ws i) j ≡ (eqb j i || has_bit ws j)
put_has ws i j h = go (has_bit ws i) refl
  where
    old : has_bit ws i ≡ true → (t : Bool) → eqb j i ≡ t → has_bit ws j ≡ (t || has_bit ws j)
    old e true q = ap (has_bit ws) (eqb-true j i q) ∙ e
    old e false q = refl

    go : (t : Bool) → has_bit ws i ≡ t → has_bit (with_bit ws i) j ≡ (eqb j i || has_bit ws j)
    go true e = ap (λ (vs : List ℕ). has_bit vs j) (with_there ws i e) ∙ old e (eqb j i) refl
    go false e = free_has ws i h e j

-- a number that was no member is one more
pub put_more : (ws : List ℕ) (i n : ℕ) → i < 64 * length ws → i < n → has_bit ws i ≡ false → how_many (has_bit (with_bit ws i)) n ≡ suc (how_many (has_bit ws) n)
put_more ws i zero h l e = absurd (omega arith)
put_more ws i (suc n) h l e = go (eqb i n) refl (λ k. put_more ws i n h k e)
  where
    other : (j : ℕ) → (j ≡ i → ⊥) → has_bit (with_bit ws i) j ≡ has_bit ws j
    other j ne = put_has ws i j h ∙ ap (λ (b : Bool). b || has_bit ws j) (ne_eqb j i ne)

    this : has_bit (with_bit ws i) i ≡ true
    this = put_has ws i i h ∙ ap (λ (b : Bool). b || has_bit ws i) (eq-eqb i i refl)

    up : (t : Bool) → has_bit ws n ≡ t → (n ≡ i → ⊥) → how_many (has_bit (with_bit ws i)) n ≡ suc (how_many (has_bit ws) n) →
        how_many (has_bit (with_bit ws i)) (suc n) ≡ suc (how_many (has_bit ws) (suc n))
    up true q ne r = many_hit (has_bit (with_bit ws i)) n (other n ne ∙ q) ∙ ap suc (r ∙ sym (many_hit (has_bit ws) n q))
    up false q ne r = many_miss (has_bit (with_bit ws i)) n (other n ne ∙ q) ∙ r ∙ ap suc (sym (many_miss (has_bit ws) n q))

    go : (t : Bool) → eqb i n ≡ t → (i < n → how_many (has_bit (with_bit ws i)) n ≡ suc (how_many (has_bit ws) n)) →
        how_many (has_bit (with_bit ws i)) (suc n) ≡ suc (how_many (has_bit ws) (suc n))
    go true q r =
        let p = eqb-true i n q in
        many_hit (has_bit (with_bit ws i)) n (subst (λ (j : ℕ). has_bit (with_bit ws i) j ≡ true) p this)
        ∙ ap suc (many_same (has_bit (with_bit ws i)) (has_bit ws) n (λ j b. other j (λ z. omega arith)) ∙ sym (many_miss (has_bit ws) n (subst (λ (j : ℕ). has_bit ws j ≡ false) p e)))
    go false q r = let d = eqb-false i n q in up (has_bit ws n) refl (λ z. omega arith) (r (omega arith))

pub put_length : (ws : List ℕ) (i : ℕ) → length (with_bit ws i) ≡ length ws
unfolding with_bit
put_length ws i = length-set ws (i / 64) (word_with (get_or ws (i / 64) 0) (i % 64))

pub zero_word : (k w : ℕ) → w ≡ 0 → eqb (w / 2 ^ k % 2) 1 ≡ false
zero_word k w e = rw (e, zero-div (2 ^ k))

-- words of zeros hold nothing
pub none_has : (n j : ℕ) → has_bit (replicate n 0) j ≡ false
unfolding has_bit bit_at
none_has n j = go (ltb (j / 64) n) refl
  where
    go : (t : Bool) → ltb (j / 64) n ≡ t → eqb (get_or (replicate n 0) (j / 64) 0 / 2 ^ (j % 64) % 2) 1 ≡ false
    go true e = zero_word (j % 64) (get_or (replicate n 0) (j / 64) 0) (get_or-replicate n (j / 64) 0 0 (ltb-true (j / 64) n e))
    go false e =
        zero_word (j % 64) (get_or (replicate n 0) (j / 64) 0) (get_or-eq_default (replicate n 0) 0 (omega (arith, ltb-false (j / 64) n e, length-replicate {A = ℕ} n 0)))

-- ---- Rows of 16 words

-- each pair has a bit of its own
pub row_apart : (a b c d : ℕ) → 1 ≤ a → 1 ≤ b → b ≤ 1024 → 1 ≤ c → 1 ≤ d → d ≤ 1024 → in_row c d ≡ in_row a b → (c ≡ a) × (d ≡ b)
row_apart a b c d la lb hb lc ld hd e = (omega arith, omega arith)

-- exactly b is a member more in the row of a, and the other rows are what they were
pub row_put_has : (rows : List ℕ) (a b c d : ℕ) → 1 ≤ a → 1 ≤ b → b ≤ 1024 → 16 * a ≤ length rows → 1 ≤ c → 1 ≤ d → d ≤ 1024 →
    has_bit (with_bit rows (in_row a b)) (in_row c d) ≡ ((eqb c a && eqb d b) || has_bit rows (in_row c d))
row_put_has rows a b c d la lb hb room lc ld hd =
    put_has rows (in_row a b) (in_row c d) (omega arith) ∙ ap (λ (t : Bool). t || has_bit rows (in_row c d)) (go (eqb c a) refl (eqb d b) refl)
  where
    go : (s : Bool) → eqb c a ≡ s → (t : Bool) → eqb d b ≡ t → eqb (in_row c d) (in_row a b) ≡ (s && t)
    go true p true q = let u = eqb-true c a p in let v = eqb-true d b q in eq-eqb (in_row c d) (in_row a b) (omega arith)
    go true p false q = let v = eqb-false d b q in ne_eqb (in_row c d) (in_row a b) (λ e. v (row_apart a b c d la lb hb lc ld hd e).1)
    go false p t q = let u = eqb-false c a p in ne_eqb (in_row c d) (in_row a b) (λ e. u (row_apart a b c d la lb hb lc ld hd e).0)

-- ---- Size: the ones of the words are the members

one_bit : (b : ℕ) → b < 2 → ones b ≡ b
unfolding ones
one_bit zero h = refl
one_bit (suc zero) h = refl
one_bit (suc (suc b)) h = absurd (omega arith)

ones_more : (w k : ℕ) → ones (w % 2 ^ suc k) ≡ w / 2 ^ k % 2 + ones (w % 2 ^ k)
ones_more w k =
    let s : suc k ≡ 1 + k = omega arith in
    ap (λ (x : ℕ). ones (w % 2 ^ x)) s ∙ ap ones (mod-pow-add w 1 k) ∙ ones_cat k (w / 2 ^ k % 2) (w % 2 ^ k) (mod-lt w (pow_pos k)) ∙ ap (λ (x : ℕ). x + ones (w % 2 ^ k)) (one_bit (w / 2 ^ k % 2) (omega arith))

none_below : (w : ℕ) → ones (w % 2 ^ 0) ≡ 0
none_below w = let e : w % 2 ^ 0 ≡ 0 = omega arith in ap ones e ∙ one_bit 0 (omega arith)

-- the members below some bit of word m
word_members : (ws : List ℕ) (m k : ℕ) → k ≤ 64 → how_many (has_bit ws) (64 * m + k) ≡ how_many (has_bit ws) (64 * m) + ones (get_or ws m 0 % 2 ^ k)
unfolding has_bit bit_at
word_members ws m zero h = let e : 64 * m + 0 ≡ 64 * m = omega arith in ap (how_many (has_bit ws)) e ∙ omega (arith, none_below (get_or ws m 0))
word_members ws m (suc k) h = go (has_bit ws (64 * m + k)) refl (word_members ws m k (omega arith))
  where
    bit : bit_at ws (64 * m + k) ≡ get_or ws m 0 / 2 ^ k % 2
    bit =
        let p : (64 * m + k) / 64 ≡ m = omega arith in
        let q : (64 * m + k) % 64 ≡ k = omega arith in
        ap (λ (x : ℕ). get_or ws x 0 / 2 ^ ((64 * m + k) % 64) % 2) p ∙ ap (λ (x : ℕ). get_or ws m 0 / 2 ^ x % 2) q

    next : 64 * m + suc k ≡ suc (64 * m + k)
    next = omega arith

    go : (t : Bool) → has_bit ws (64 * m + k) ≡ t → how_many (has_bit ws) (64 * m + k) ≡ how_many (has_bit ws) (64 * m) + ones (get_or ws m 0 % 2 ^ k) →
        how_many (has_bit ws) (64 * m + suc k) ≡ how_many (has_bit ws) (64 * m) + ones (get_or ws m 0 % 2 ^ suc k)
    go true e i =
        ap (how_many (has_bit ws)) next ∙ many_hit (has_bit ws) (64 * m + k) e
        ∙ omega (arith, ones_more (get_or ws m 0) k, bit, eqb-true (bit_at ws (64 * m + k)) 1 e)
    go false e i =
        ap (how_many (has_bit ws)) next ∙ many_miss (has_bit ws) (64 * m + k) e
        ∙ omega (arith, ones_more (get_or ws m 0) k, bit, bit_zero ws (64 * m + k) e)

-- a word more
pub size_next : (ws : List ℕ) (m : ℕ) → get_or ws m 0 < 2 ^ 64 → how_many (has_bit ws) (64 * (m + 1)) ≡ how_many (has_bit ws) (64 * m) + ones (get_or ws m 0)
size_next ws m h =
    let e : 64 * (m + 1) ≡ 64 * m + 64 = omega arith in
    ap (how_many (has_bit ws)) e ∙ word_members ws m 64 (omega arith) ∙ ap (λ (x : ℕ). how_many (has_bit ws) (64 * m) + ones x) (mod-eq_of_lt h)
