-- One test after the other, as the code goes.
use Prim.Native.Nat.{ℕ, ◌≤◌, ◌<◌}
use native.Mathlib.Omega.{arith}
use mathlib.Core.Path.{◌≡◌, refl, sym, ap, ◌∙◌}
use mathlib.Core.Bool.{Bool, true, false, cond, not, ◌&&◌, ◌||◌}
use mathlib.Core.List.{List, [], ◌∷◌, map}
use lib.Dec.{eqb}
use Rattle.std.specs.List.{list_any}
use Rattle.std.specs.Ordering.{int_eq}
use Rattle.std.proofs.lemmas.Bool.Decides.{Decides-int_eq}
use lib.IntN.{ℤ, pos, negsuc}
use lib.Signed.{lt_z, le_z}
use borrow.Author.Tests.{eqb-true, eqb-false, lt-leb, le-leb, ltb-true, ltb-false, not-true, not-false}
use mir.Syntax.{w32}
use mir.Val.{SFits, to_z, of_z}
use mir.ValLaws.{to_z_pos}
use Rattle.rules.specs.Forms.{stereos}
use Rattle.judge_line.specs.Field.{same_integer, elem_signed}
use Rattle.judge_line.specs.AgreeField.{integer_same, same_integer_lem}
use Rattle.line_fields.specs.Steps.{hop}
use Rattle.writer_row.specs.Row.{in_range, marks}

-- ---- One test after the other

module _ (x : Bool) where
  pub and_next : (b t r : Bool) → t ≡ b → not t ≡ false → r ≡ x → r ≡ (b && x)
  and_next b t r e h k = rw (← e, not-false t h) k

  pub and_stop : (b t : Bool) → t ≡ b → not t ≡ true → false ≡ (b && x)
  and_stop b t e h = rw (← e, not-true t h)

pub ruleset tests = (and_next, and_stop)

-- ---- A number in its range

below : (low z : ℤ) → lt_z z low ≡ true → le_z low z ≡ false
below (pos a) (pos b) h = lt-leb a b (ltb-true b a h)
below (pos a) (negsuc b) h = refl
below (negsuc a) (pos b) h = sym h
below (negsuc a) (negsuc b) h = lt-leb b a (ltb-true a b h)

above : (low z : ℤ) → lt_z z low ≡ false → le_z low z ≡ true
above (pos a) (pos b) h = le-leb a b (ltb-false b a h)
above (pos a) (negsuc b) h = sym h
above (negsuc a) (pos b) h = refl
above (negsuc a) (negsuc b) h = le-leb b a (ltb-false a b h)

module _ (low z : ℤ) (high : ℕ) (l : SFits w32 low) (f : SFits w32 z) where
  pub too_low : lt_z (to_z w32 (of_z w32 z)) (to_z w32 (of_z w32 low)) ≡ true → false ≡ in_range low high z
  unfolding in_range
  too_low h = rw (below low z (rw (hop z f, hop low l) at h))

  pub up_to : lt_z (to_z w32 (of_z w32 z)) (to_z w32 (of_z w32 low)) ≡ false → high < 1000000000 → le_z (to_z w32 (of_z w32 z)) (to_z w32 high) ≡ in_range low high z
  unfolding in_range
  up_to h k = rw (above low z (rw (hop z f, hop low l) at h), hop z f, to_z_pos w32 high (omega arith))

-- ---- Two numbers are the same if their bits are

module _ (x y : ℤ) (f : SFits w32 x) (g : SFits w32 y) where
  pub bits_same : of_z w32 x ≡ of_z w32 y → same_integer x y ≡ true
  bits_same e = rw (sym (hop x f) ∙ ap (to_z w32) e ∙ hop y g) (integer_same y)

  pub bits_apart : (of_z w32 x ≡ of_z w32 y → ⊥) → same_integer x y ≡ false
  bits_apart h = go (same_integer x y) refl
    where
      go : (t : Bool) → same_integer x y ≡ t → t ≡ false
      go true e = absurd (h (ap (of_z w32) (same_integer_lem x y e)))
      go false e = refl

  pub bits_test : eqb (of_z w32 x) (of_z w32 y) ≡ same_integer x y
  bits_test = go (eqb (of_z w32 x) (of_z w32 y)) refl
    where
      go : (t : Bool) → eqb (of_z w32 x) (of_z w32 y) ≡ t → t ≡ same_integer x y
      go true e = sym (bits_same (eqb-true (of_z w32 x) (of_z w32 y) e))
      go false e = sym (bits_apart (eqb-false (of_z w32 x) (of_z w32 y) e))

  pub bits_differ : not (eqb (of_z w32 x) (of_z w32 y)) ≡ not (same_integer x y)
  bits_differ = ap not bits_test

-- ---- A number is sought in a list

sought : (z x : ℤ) → int_eq x z ≡ same_integer z x
sought z x = go (int_eq x z) refl (same_integer z x) refl
  where
    go : (t : Bool) → int_eq x z ≡ t → (u : Bool) → same_integer z x ≡ u → t ≡ u
    go true e true f = refl
    go false e false f = refl
    go true e false f = sym (ap (same_integer z) ((Decides-int_eq x z).0 e) ∙ integer_same z) ∙ f
    go false e true f = sym e ∙ (Decides-int_eq x z).1 (sym (same_integer_lem z x f))

pub contained : (z : ℤ) (list : List ℤ) → list_any (λ x. int_eq x z) list ≡ elem_signed z list
unfolding elem_signed
contained z [] = refl
contained z (x ∷ xs) = rw (sought z x, contained z xs) (either (same_integer z x) (elem_signed z xs))
  where
    either : (t u : Bool) → (t || u) ≡ cond t true u
    either true u = refl
    either false u = refl

-- ---- The list that a bond's type names

small_fits : (k : ℕ) → k ≤ 2 → SFits w32 (pos k)
small_fits k h = record { sfits = omega arith }

module _ (type : ℤ) (f : SFits w32 type) (r : Bool) (stereo : ℤ) where
  pub single_bond : of_z w32 type ≡ 1 → r ≡ elem_signed stereo (map pos (stereos 1)) → r ≡ elem_signed stereo (marks type)
  unfolding marks
  single_bond h k = rw (bits_same type (pos 1) f (small_fits 1 (omega arith)) h) k

  pub double_bond : (of_z w32 type ≡ 1 → ⊥) → of_z w32 type ≡ 2 → r ≡ elem_signed stereo (map pos (stereos 2)) → r ≡ elem_signed stereo (marks type)
  unfolding marks
  double_bond g h k = rw (bits_apart type (pos 1) f (small_fits 1 (omega arith)) g, bits_same type (pos 2) f (small_fits 2 (omega arith)) h) k

  pub other_bond : (of_z w32 type ≡ 1 → ⊥) → (of_z w32 type ≡ 2 → ⊥) → r ≡ elem_signed stereo (map pos (stereos 0)) → r ≡ elem_signed stereo (marks type)
  unfolding marks
  other_bond g h k = rw (bits_apart type (pos 1) f (small_fits 1 (omega arith)) g, bits_apart type (pos 2) f (small_fits 2 (omega arith)) h) k

pub ruleset by_type = (single_bond, double_bond, other_bond)
