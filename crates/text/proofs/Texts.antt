-- Laws on columns that are compared with a text one by one, and on one column.
use Prim.Native.Nat.{ℕ, suc, ◌+◌, ◌-◌, ◌≤◌, ◌<◌}
use native.Mathlib.Nat.{add-zero, add-suc, suc-add}
use native.Mathlib.Numerals.{add-one}
use native.Mathlib.Omega.{arith}
use mathlib.Core.Path.{◌≡◌, refl, sym, ap, ◌∙◌}
use mir.Val.{bool_byte}
use mathlib.Core.Bool.{Bool, true, false}
use mathlib.Core.List.{[], ◌∷◌}
use lib.ListN.{length, get_or, drop, drop_of_length-le, get_or-eq_default}
use lib.Seq.{drop-cons}
use borrow.Author.Tests.{eq-eqb, ne_eqb}
use Rattle.text.specs.Text.{Bytes, Line, byte}
use Rattle.text.specs.Columns.{column, columns_for}
use Rattle.text.specs.Laws.{get_d_any}
use Rattle.text.specs.Find.{same_bytes, has_text}

pub column_within : (l : Line) (i : ℕ) → i - 1 < length l → get_or l (i - 1) 0 ≡ column l i
column_within l i h = get_d_any l (i - 1) 0 (byte " ") h

pub column_over : (l : Line) (i : ℕ) → length l ≤ i - 1 → byte " " ≡ column l i
column_over l i h = sym (get_or-eq_default l (byte " ") h)

-- the text from place k on, held against the columns from i + k on
unfoldable pub text_from : Line → ℕ → Bytes → ℕ → Bool
text_from l i text k = same_bytes (columns_for l (i + k) (length text - k)) (drop k text)

module _ (l : Line) (i : ℕ) (text : Bytes) where
  pub text_start : has_text l i text ≡ text_from l i text 0
  unfolding has_text text_from
  text_start =
      let e : length text - 0 ≡ length text = omega arith in
      rw (e, add-zero i)

  pub text_next : (k b : ℕ) → has_text l i text ≡ text_from l i text k → k < length text → b ≡ column l (i + k) → b ≡ get_or text k 0 → has_text l i text ≡ text_from l i text (k + 1)
  unfolding text_from same_bytes columns_for
  text_next k b a h q t =
      let e : length text - k ≡ suc (length text - (k + 1)) = omega arith in
      let n : i + (k + 1) ≡ suc (i + k) = omega arith in
      a ∙ rw (e, drop-cons text k 0 h, eq-eqb _ _ (sym q ∙ t), n, add-one k)

  pub text_other : (k b : ℕ) → has_text l i text ≡ text_from l i text k → k < length text → b ≡ column l (i + k) → (b ≡ get_or text k 0 → ⊥) → false ≡ has_text l i text
  unfolding text_from same_bytes columns_for
  text_other k b a h q t =
      let e : length text - k ≡ suc (length text - (k + 1)) = omega arith in
      sym (a ∙ rw (e, drop-cons text k 0 h, ne_eqb _ _ (λ e. t (q ∙ e))))

  pub text_over : (k : ℕ) → has_text l i text ≡ text_from l i text k → length text ≤ k → true ≡ has_text l i text
  unfolding text_from same_bytes columns_for
  text_over k a h =
      let e : length text - k ≡ 0 = omega arith in
      sym (a ∙ rw (e, drop_of_length-le text h))

-- a text whose every byte stands in its column
pub text_all : (l : Line) (i : ℕ) (text : Bytes) → ((k : ℕ) → k < length text → column l (i + k) ≡ get_or text k 0) → has_text l i text ≡ true
unfolding has_text same_bytes columns_for
text_all l i [] f = refl
text_all l i (t ∷ text) f =
    let e : column l i ≡ t = ap (column l) (sym (add-zero i)) ∙ f 0 (omega arith) in
    let others : (k : ℕ) → k < length text → column l (suc i + k) ≡ get_or text k 0 = λ k h. ap (column l) (suc-add i k ∙ sym (add-suc i k)) ∙ f (suc k) (omega arith) in
    rw (eq-eqb _ _ e, text_all l (suc i) text others)

pub ruleset column_laws = (column_within, column_over)

pub ruleset text_laws = (text_start, text_next, text_other, text_over)
