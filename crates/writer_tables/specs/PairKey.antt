-- The pair of a bond in a table as one number: bonds of the same pair have the same, so that earlier bonds can be passed by their numbers.
use Rattle.std.specs.Prelude.{ℕ, ◌≤◌, ◌≡◌, refl, List, Bool, true, false, cond, ◌&&◌, ◌||◌, leb, ℤ, pos, negsuc}
use Rattle.std.proofs.Common.{arith, ap₂, ◌∙◌, leb-true}
use Rattle.rules.specs.Canon.{bond_row}
use Rattle.rules.specs.Rows.{row_at}
use Rattle.judge_line.specs.Field.{same_integer}
use Rattle.judge_line.specs.AgreeField.{same_integer_lem}
use Rattle.reader_pairs.specs.Keys.{pair_key, key_either}
use Rattle.writer_row.specs.AgreeNumber.{left_true, right_true}
use Rattle.writer_tables.specs.Tables.{same_ends, same_at}

-- an end that three columns can hold, else 0
unfoldable pub small_end : ℤ → ℕ
small_end (pos k) = cond (leb k 999) k 0
small_end (negsuc k) = 0

pub small_end_lem : (z : ℤ) → small_end z ≤ 999
unfolding small_end
small_end_lem (pos k) = go (leb k 999) refl
  where
    go : (t : Bool) → leb k 999 ≡ t → cond t k 0 ≤ 999
    go true e = leb-true k 999 e
    go false e = omega arith
small_end_lem (negsuc k) = omega arith

abbrev pub ends_key : ℤ → ℤ → ℕ
ends_key a b = pair_key (small_end a) (small_end b)

-- row i of a table of bonds
unfoldable pub key_at : List ℤ → ℕ → ℕ
key_at t i = ends_key (bond_row (row_at 6 t i)).first (bond_row (row_at 6 t i)).second

ends_key_lem : (a b c d : ℤ) → ((same_integer a c && same_integer b d) || (same_integer a d && same_integer b c)) ≡ true → ends_key a b ≡ ends_key c d
ends_key_lem a b c d h = go (same_integer a c && same_integer b d) refl h
  where
    go : (s : Bool) → (same_integer a c && same_integer b d) ≡ s → (s || (same_integer a d && same_integer b c)) ≡ true → ends_key a b ≡ ends_key c d
    go true e k = ap₂ ends_key (same_integer_lem a c (left_true _ (same_integer b d) e)) (same_integer_lem b d (right_true (same_integer a c) _ e))
    go false e k = ap₂ ends_key (same_integer_lem a d (left_true _ (same_integer b c) k)) (same_integer_lem b c (right_true (same_integer a d) _ k)) ∙ key_either (small_end d) (small_end c)

pub same_key : (t : List ℤ) (i j : ℕ) → same_at t i j ≡ true → key_at t i ≡ key_at t j
unfolding same_at same_ends key_at
same_key t i j h = ends_key_lem (bond_row (row_at 6 t i)).first (bond_row (row_at 6 t i)).second (bond_row (row_at 6 t j)).first (bond_row (row_at 6 t j)).second h
