-- Laws on one pair asked for and entered.
use Prim.Native.Nat.{ℕ, ◌*◌, ◌/◌, ◌%◌, ◌≤◌}
use native.Mathlib.Omega.{arith}
use mathlib.Core.Path.{◌≡◌, sym, ap, ◌∙◌}
use mathlib.Core.List.{List}
use mathlib.Core.Bool.{Bool, true, false}
use lib.ListN.{length}
use borrow.Author.Tests.{eq-eqb, ne_eqb}
use Rattle.sets_words.specs.Bits.{has_bit, with_bit, in_row}
use Rattle.sets_words.specs.Members.{put_length}
use Rattle.reader_rows.specs.Marked.{with_pair, with_key, none_with}
use Rattle.reader_rows.specs.Rowed.{Fitting, new_in}

module _ (ws : List ℕ) (key : ℕ) (g : Fitting ws key) where
  -- the bit of the higher atom in the row of the lower one
  pub low_row : (length ws ≡ 0 → ⊥) → (1 ≤ key / 1024) × (1 ≤ key % 1024) × (key % 1024 ≤ 1024) × (16 * (key / 1024) ≤ length ws)
  low_row n = (
    g.pair.low,
    omega (arith, g.pair.low, g.pair.ordered),
    omega (arith, g.pair.high),
    omega (arith, g.room n, g.pair.ordered, g.pair.high),
  )

  -- and of the lower one in the row of the higher one
  pub high_row : (length ws ≡ 0 → ⊥) → (vs : List ℕ) → vs ≡ with_bit ws (in_row (key / 1024) (key % 1024)) →
      (1 ≤ key % 1024) × (1 ≤ key / 1024) × (key / 1024 ≤ 1024) × (16 * (key % 1024) ≤ length vs)
  high_row n vs e = (
    omega (arith, g.pair.low, g.pair.ordered),
    g.pair.low,
    omega (arith, g.pair.ordered, g.pair.high),
    omega (arith, ap length e, put_length ws (in_row (key / 1024) (key % 1024)), g.room n, g.pair.high),
  )

module _ (ws : List ℕ) (key : ℕ) where
  pub new_no_rows : length ws ≡ 0 → false ≡ new_in ws key
  unfolding new_in
  new_no_rows e = rw (eq-eqb (length ws) 0 e)

  pub new_said : (length ws ≡ 0 → ⊥) → (t : Bool) → t ≡ has_bit ws (in_row (key / 1024) (key % 1024)) → t ≡ true → false ≡ new_in ws key
  unfolding new_in
  new_said n t h e = rw (ne_eqb (length ws) 0 n, sym h ∙ e)

  pub new_unsaid : (length ws ≡ 0 → ⊥) → (t : Bool) → t ≡ has_bit ws (in_row (key / 1024) (key % 1024)) → t ≡ false → true ≡ new_in ws key
  unfolding new_in
  new_unsaid n t h e = rw (ne_eqb (length ws) 0 n, sym h ∙ e)

  pub mark_none : length ws ≡ 0 → ws ≡ with_key ws key
  mark_none e = none_with ws (key / 1024) (key % 1024) e

  pub mark_both : (xs ys : List ℕ) → xs ≡ with_bit ws (in_row (key / 1024) (key % 1024)) → ys ≡ with_bit xs (in_row (key % 1024) (key / 1024)) → ys ≡ with_key ws key
  unfolding with_pair
  mark_both xs ys e f = f ∙ ap (λ (zs : List ℕ). with_bit zs (in_row (key % 1024) (key / 1024))) e

pub ruleset asked_laws = (low_row, high_row, new_no_rows, new_said, new_unsaid, mark_none, mark_both)
