-- All rows of a table, one after the other, as a loop goes over them.
use Prim.Native.Nat.{ℕ, ◌+◌, ◌-◌, ◌*◌, ◌≤◌, ◌<◌}
use native.Mathlib.Omega.{arith}
use mathlib.Core.Path.{◌≡◌, refl, ◌∙◌}
use mathlib.Core.List.{List}
use mathlib.Core.Bool.{Bool, true, false, not}
use lib.Dec.{eqb}
use lib.ListN.{length, get_or, drop, take}
use lib.IntN.{ℤ, pos, negsuc}
use lib.Seq.{drop-length, get_or-take, get_or-drop}
use mir.Syntax.{w32}
use mir.Val.{SFits, of_z}
use borrow.Author.Tests.{not-true, not-false}
use Rattle.rules.specs.Canon.{is_zero}
use Rattle.rules.specs.Rows.{row_at, rows_of, rows_length, rows_next}
use Rattle.writer_tables.specs.Tables.{all_rows}
use Rattle.writer_row.proofs.Steps.{bits_test}

-- the test of all rows is that of row i and those after it
pub record Walking (p : List ℤ → Bool) (width : ℕ) (t : List ℤ) (n i : ℕ) : Type 0 where
  pub within : i ≤ n
  pub same : all_rows p (rows_of width n t) ≡ all_rows p (drop i (rows_of width n t))

module _ (p : List ℤ → Bool) (width : ℕ) (t : List ℤ) (n : ℕ) where
  pub walking_start : Walking p width t n 0
  walking_start = record { within = omega arith; same = refl }

  pub walking_next : (i : ℕ) (b : Bool) → Walking p width t n i → i < n → b ≡ p (row_at width t i) → not b ≡ false → Walking p width t n (i + 1)
  unfolding all_rows
  walking_next i b w h e k =
      record {
        within = omega arith;
        same = w.same ∙ rw (rows_next width n t i h, ← e, not-false b k);
      }

  pub walking_stop : (i : ℕ) (b : Bool) → Walking p width t n i → i < n → b ≡ p (row_at width t i) → not b ≡ true → false ≡ all_rows p (rows_of width n t)
  unfolding all_rows
  walking_stop i b w h e k = rw (w.same, rows_next width n t i h, ← e, not-true b k)

  pub walking_end : (i : ℕ) → Walking p width t n i → n ≤ i → true ≡ all_rows p (rows_of width n t)
  unfolding all_rows
  walking_end i w h =
      let e : i ≡ length (rows_of width n t) = omega (arith, rows_length width n t, w.within) in
      rw (w.same, e, drop-length (rows_of width n t))

pub ruleset walking = (walking_start, walking_next, walking_stop, walking_end)

-- a row, as a part of the table
pub row_part : (width : ℕ) (t : List ℤ) (i : ℕ) → take (width * i + width - width * i) (drop (width * i) t) ≡ row_at width t i
row_part width t i = let e : width * i + width - width * i ≡ width = omega arith in rw e

pub row_get : (width : ℕ) (t : List ℤ) (i k : ℕ) → k < width → get_or (row_at width t i) k (pos 0) ≡ get_or t (width * i + k) (pos 0)
row_get width t i k h = get_or-take width (drop (width * i) t) k (pos 0) h ∙ get_or-drop (width * i) t k (pos 0)

-- a number of a row is 0 if its bits are
pub zero_bits : (t : List ℤ) (i k : ℕ) → k < 16 → SFits w32 (get_or t (16 * i + k) (pos 0)) → eqb (of_z w32 (get_or t (16 * i + k) (pos 0))) 0 ≡ is_zero (get_or (row_at 16 t i) k (pos 0))
zero_bits t i k h f = rw (row_get 16 t i k h) (go (get_or t (16 * i + k) (pos 0)) f)
  where
    go : (z : ℤ) → SFits w32 z → eqb (of_z w32 z) 0 ≡ is_zero z
    go (pos a) f = bits_test (pos a) (pos 0) f (record { sfits = omega arith })
    go (negsuc a) f = bits_test (negsuc a) (pos 0) f (record { sfits = omega arith })
