-- Words and rows, as the code reaches them.
use Prim.Native.Nat.{ℕ, suc, ◌+◌, ◌-◌, ◌*◌, ◌/◌, ◌%◌, ◌^◌, ◌≤◌, ◌<◌}
use native.Mathlib.Omega.{arith}
use mathlib.Core.Path.{◌≡◌, refl, sym, ap, ◌∙◌, subst}
use mathlib.Core.List.{List}
use lib.Dec.{eqb}
use lib.ListN.{get_or, set}
use lib.Pow.{shl_exact}
use lib.Count.{ones, ones-le}
use Rattle.sets_words.specs.Bits.{bit_at, has_bit, word_with, with_bit, in_row}
use Rattle.sets_words.specs.HowMany.{how_many, many_le}
use Rattle.sets_words.specs.Fresh.{fresh_fits}
use Rattle.sets_words.specs.Members.{word_new, size_next}

shifted : (k : ℕ) → k < 64 → (1 * 2 ^ k) % 2 ^ 64 ≡ 2 ^ k
shifted k h = shl_exact 1 k 64 (omega arith) (omega arith) ∙ omega arith

pub sum_fits : (w k : ℕ) → w < 2 ^ 64 → k < 64 → (w / 2 ^ k % 2 ≡ 1 → ⊥) → w + (1 * 2 ^ k) % 2 ^ 64 < 2 ^ 64
sum_fits w k h l n =
    let bit : w / 2 ^ k % 2 ≡ 0 = omega arith in
    let top : suc (63 - k) + k ≡ 64 = omega arith in
    rw (shifted k l) (subst (λ (e : ℕ). w + 2 ^ k < 2 ^ e) top (fresh_fits w k bit (63 - k) (subst (λ (e : ℕ). w < 2 ^ e) (sym top) h)))

pub sum_with : (w k : ℕ) → k < 64 → (w / 2 ^ k % 2 ≡ 1 → ⊥) → w + (1 * 2 ^ k) % 2 ^ 64 ≡ word_with w k
sum_with w k l n = ap (λ (x : ℕ). w + x) (shifted k l) ∙ word_new w k n

pub put_with : (ws : List ℕ) (i w : ℕ) → w ≡ word_with (get_or ws (i / 64) 0) (i % 64) → set ws (i / 64) w ≡ with_bit ws i
unfolding with_bit
put_with ws i w e = ap (set ws (i / 64)) e

-- the word and the bit of b in the row of a
row_word : (a b : ℕ) → 16 * (a - 1) + (b - 1) / 64 ≡ in_row a b / 64
row_word a b = omega arith

row_bit : (a b : ℕ) → (b - 1) % 64 ≡ in_row a b % 64
row_bit a b = omega arith

pub row_has : (rows : List ℕ) (a b : ℕ) → eqb (get_or rows (16 * (a - 1) + (b - 1) / 64) 0 / 2 ^ ((b - 1) % 64) % 2) 1 ≡ has_bit rows (in_row a b)
unfolding has_bit bit_at
row_has rows a b = rw (row_word a b, row_bit a b)

pub row_with : (rows : List ℕ) (a b w : ℕ) → w ≡ word_with (get_or rows (16 * (a - 1) + (b - 1) / 64) 0) ((b - 1) % 64) →
    set rows (16 * (a - 1) + (b - 1) / 64) w ≡ with_bit rows (in_row a b)
unfolding with_bit
row_with rows a b w e = rw (e, row_word a b, row_bit a b)

-- the members in the words before
pub record Sizing (words : List ℕ) (i n : ℕ) : Type 0 where
  pub within : i ≤ 16
  pub same : n ≡ how_many (has_bit words) (64 * i)

pub sizing_start : (words : List ℕ) → Sizing words 0 0
unfolding how_many
sizing_start words = record { within = omega arith; same = refl }

module _ (words : List ℕ) (i n r : ℕ) (g : Sizing words i n) (h : i < 16) (e : (r ≡ ones (get_or words i 0)) × (get_or words i 0 < 2 ^ 64)) where
  pub sizing_next : Sizing words (i + 1) (n + r)
  sizing_next = record { within = omega arith; same = ap (λ (x : ℕ). n + x) e.0 ∙ ap (λ (x : ℕ). x + ones (get_or words i 0)) g.same ∙ sym (size_next words i e.1) }

  pub sizing_fits : n + r < 2 ^ 32
  sizing_fits = omega (arith, g.same, e.0, many_le (has_bit words) (64 * i), ones-le 64 (get_or words i 0) e.1)

pub sizing_end : (words : List ℕ) (i n : ℕ) → Sizing words i n → 16 ≤ i → n ≡ how_many (has_bit words) 1024
sizing_end words i n g h = let e : 64 * i ≡ 1024 = omega (arith, g.within) in g.same ∙ ap (how_many (has_bit words)) e

pub ruleset sizing_laws = (sizing_start, sizing_next, sizing_fits, sizing_end)
