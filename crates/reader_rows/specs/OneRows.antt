-- One memory says the pairs of a list: two rows that say the same are the same words.
use Rattle.std.specs.Prelude.{ℕ, zero, suc, ◌+◌, ◌-◌, ◌*◌, ◌/◌, ◌%◌, ◌<◌, ◌^◌, ◌≡◌, refl, List, Bool, true, false, eqb, ltb, length, get_or, drop}
use Rattle.std.proofs.Common.{arith, pow-suc, sym, ap, ◌∙◌, ext_get_or, get_or-drop, shr-shr, eqb-true, ltb-true, ltb-false}
use Rattle.std.proofs.lemmas.Bool.{eqb-false}
use Rattle.rules.specs.Forms.{Bond}
use Rattle.sets_words.specs.Bits.{bit_at, has_bit, in_row}
use Rattle.reader_rows.specs.Says.{row_places, Says}

-- words with the same bits
same_word : (n v w : ℕ) → v < 2 ^ n → w < 2 ^ n → ((k : ℕ) → k < n → v / 2 ^ k % 2 ≡ w / 2 ^ k % 2) → v ≡ w
same_word zero v w hv hw e = omega arith
same_word (suc n) v w hv hw e =
    let p : 2 ^ suc n ≡ 2 ^ n * 2 = pow-suc 2 n in
    let next : (x k : ℕ) → x / 2 / 2 ^ k % 2 ≡ x / 2 ^ suc k % 2 =
    λ x k. ap (λ (y : ℕ). y % 2) (shr-shr x 1 k ∙ ap (λ (j : ℕ). x / 2 ^ j) (let q : 1 + k ≡ suc k = omega arith in q)) in
    let halves = same_word n (v / 2) (w / 2) (omega arith) (omega arith) (λ k h. next v k ∙ e (suc k) (omega arith) ∙ sym (next w k)) in
    let last : v / 2 ^ 0 % 2 ≡ w / 2 ^ 0 % 2 = e 0 (omega arith) in
    let parity : v % 2 ≡ w % 2 = omega arith in
    omega arith

bit_same : (ws vs : List ℕ) (i : ℕ) → has_bit ws i ≡ has_bit vs i → bit_at ws i ≡ bit_at vs i
unfolding has_bit bit_at
bit_same ws vs i e = go (eqb (bit_at ws i) 1) refl (eqb (bit_at vs i) 1) refl
  where
    differ : {A : Type 0} → eqb (bit_at ws i) 1 ≡ true → eqb (bit_at vs i) 1 ≡ false → A
    differ p q = absurd (let z : true ≡ false = sym p ∙ e ∙ q in let y : ◌≡◌ {A = ℕ} 0 1 = cc in omega arith)

    differ' : {A : Type 0} → eqb (bit_at ws i) 1 ≡ false → eqb (bit_at vs i) 1 ≡ true → A
    differ' p q = absurd (let z : true ≡ false = sym q ∙ sym e ∙ p in let y : ◌≡◌ {A = ℕ} 0 1 = cc in omega arith)

    go : (s : Bool) → eqb (bit_at ws i) 1 ≡ s → (t : Bool) → eqb (bit_at vs i) 1 ≡ t → bit_at ws i ≡ bit_at vs i
    go true p true q = eqb-true (bit_at ws i) 1 p ∙ sym (eqb-true (bit_at vs i) 1 q)
    go false p false q = let x = eqb-false (bit_at ws i) 1 p in let y = eqb-false (bit_at vs i) 1 q in omega arith
    go true p false q = differ p q
    go false p true q = differ' p q

-- bit k of word i
bit_in_word : (ws : List ℕ) (i k : ℕ) → k < 64 → bit_at ws (64 * i + k) ≡ get_or ws i 0 / 2 ^ k % 2
unfolding bit_at
bit_in_word ws i k h =
    let p : (64 * i + k) / 64 ≡ i = omega arith in
    let q : (64 * i + k) % 64 ≡ k = omega arith in
    rw (p, q)

module _ (bs : List Bond) (ws vs : List ℕ) (g : Says ws bs) (h : Says vs bs) where
  word : (i : ℕ) → i < row_places → get_or ws i 0 ≡ get_or vs i 0
  word i l = same_word 64 (get_or ws i 0) (get_or vs i 0) (g.words i l) (h.words i l) bits
    where
      bits : (k : ℕ) → k < 64 → get_or ws i 0 / 2 ^ k % 2 ≡ get_or vs i 0 / 2 ^ k % 2
      bits k few =
          let a : ℕ = i / 16 + 1 in
          let b : ℕ = 64 * (i % 16) + k + 1 in
          let at : in_row (i / 16 + 1) (64 * (i % 16) + k + 1) ≡ 64 * i + k = omega arith in
          let same : has_bit ws (in_row (i / 16 + 1) (64 * (i % 16) + k + 1)) ≡ has_bit vs (in_row (i / 16 + 1) (64 * (i % 16) + k + 1)) =
          g.pairs (i / 16 + 1) (64 * (i % 16) + k + 1) (omega arith) (omega arith) (omega arith) (omega arith)
          ∙ sym (h.pairs (i / 16 + 1) (64 * (i % 16) + k + 1) (omega arith) (omega arith) (omega arith) (omega arith)) in
          sym (bit_in_word ws i k few) ∙ ap (bit_at ws) (sym at)
          ∙ bit_same ws vs (in_row (i / 16 + 1) (64 * (i % 16) + k + 1)) same
          ∙ ap (bit_at vs) at ∙ bit_in_word vs i k few

  -- with the same words past them
  pub rows_one : length ws ≡ length vs → drop row_places ws ≡ drop row_places vs → ws ≡ vs
  rows_one n past = ext_get_or 0 ws vs n (λ i l. go i (ltb i row_places) refl)
    where
      go : (i : ℕ) (t : Bool) → ltb i row_places ≡ t → get_or ws i 0 ≡ get_or vs i 0
      go i true e = word i (ltb-true i row_places e)
      go i false e =
          let p : row_places + (i - row_places) ≡ i = omega (arith, ltb-false i row_places e) in
          ap (λ (j : ℕ). get_or ws j 0) (sym p) ∙ sym (get_or-drop row_places ws (i - row_places) 0)
          ∙ ap (λ (us : List ℕ). get_or us (i - row_places) 0) past ∙ get_or-drop row_places vs (i - row_places) 0 ∙ ap (λ (j : ℕ). get_or vs j 0) p
