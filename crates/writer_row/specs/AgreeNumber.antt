-- The tests of one number say what the rules say.
use Rattle.std.specs.Prelude.{ℕ, zero, suc, ◌≤◌, ◌≡◌, refl, ◌≢◌, ◌↔◌, List, map, Bool, true, false, cond, not, ◌&&◌, eqb, leb, ℤ, pos, negsuc, nat_abs}
use Rattle.std.proofs.Common.{arith, sym, ap, eqb-true, le-leb, leb-true}
use Rattle.text.specs.Laws.{true_false, and_true}
use Rattle.field_numbers.specs.Number.{Between, OneOf}
use Rattle.rules.specs.Forms.{stereos}
use Rattle.rules.specs.Canon.{FromTo, is_zero}
use Rattle.judge_line.specs.Field.{same_integer, elem_signed}
use Rattle.judge_line.specs.AgreeField.{integer_same, same_integer_lem, elem_signed_true, elem_signed_is}
use Rattle.writer_row.specs.Row.{in_range, minus, marks}

-- ---- Two tests

pub left_true : (a b : Bool) → (a && b) ≡ true → a ≡ true
left_true a b h = (and_true a b h).0

pub right_true : (a b : Bool) → (a && b) ≡ true → b ≡ true
right_true a b h = (and_true a b h).1

pub and_agrees : {P Q : Type 0} {a b : Bool} → (a ≡ true) ↔ P → (b ≡ true) ↔ Q → ((a && b) ≡ true) ↔ P × Q
and_agrees {P} {Q} {a} {b} f g = ((λ h. (f.0 (left_true a b h), g.0 (right_true a b h))), (λ h. both (f.1 h.0) (g.1 h.1)))
  where
    both : a ≡ true → b ≡ true → (a && b) ≡ true
    both p q = rw (p, q)

pub up_agrees : (a b : ℕ) → (leb a b ≡ true) ↔ (a ≤ b)
up_agrees a b = (leb-true a b, le-leb a b)

-- ---- Ranges

pub from_to : (least most : ℕ) (z : ℤ) → (in_range (pos least) most z ≡ true) ↔ FromTo least most z
unfolding in_range
from_to least most (pos k) = and_agrees (up_agrees least k) (up_agrees k most)
from_to least most (negsuc k) = ((λ h. true_false (sym h)), (λ h. absurd h))

pub between : (below above : ℕ) (z : ℤ) → (in_range (minus below) above z ≡ true) ↔ Between below above z
unfolding in_range
between zero above (pos k) = ((λ h. leb-true k above (right_true (leb 0 k) _ h)), (λ h. rw (le-leb 0 k (omega arith), le-leb k above h)))
between zero above (negsuc k) = ((λ h. true_false (sym h)), (λ h. absurd (omega arith)))
between (suc below) above (pos k) = up_agrees k above
between (suc below) above (negsuc k) = ((λ h. low (leb-true k below (left_true _ _ h))), (λ h. rw (le-leb k below (omega arith))))
  where
    low : k ≤ below → suc k ≤ suc below
    low h = omega arith

-- ---- The same number

pub differ_agrees : (x y : ℤ) → (not (same_integer x y) ≡ true) ↔ (x ≢ y)
differ_agrees x y = ((λ h e. true_false (sym (rw (e, integer_same y) at h))), (λ h. go (same_integer x y) refl h))
  where
    go : (t : Bool) → same_integer x y ≡ t → x ≢ y → not t ≡ true
    go true e h = absurd (h (same_integer_lem x y e))
    go false e h = refl

pub zero_agrees : (z : ℤ) → (is_zero z ≡ true) ↔ (z ≡ pos 0)
zero_agrees (pos k) = ((λ h. ap pos (eqb-true k 0 h)), (λ h. ap is_zero h))
zero_agrees (negsuc k) = ((λ h. true_false (sym h)), (λ h. ap is_zero h))

-- numbers of a range without negatives are the same if their sizes are
pub same_size : (least most : ℕ) (x y : ℤ) → FromTo least most x → FromTo least most y → same_integer x y ≡ eqb (nat_abs x) (nat_abs y)
same_size least most (pos a) (pos b) f g = refl
same_size least most (pos a) (negsuc b) f g = absurd g
same_size least most (negsuc a) y f g = absurd f

-- ---- Lists

pub listed_agrees : (z : ℤ) (xs : List ℤ) → (elem_signed z xs ≡ true) ↔ OneOf z xs
listed_agrees z xs = (elem_signed_true z xs, elem_signed_is)

pub marks_are : (type : ℤ) → FromTo 1 8 type → marks type ≡ map pos (stereos (nat_abs type))
unfolding marks
marks_are (pos k) h = go (eqb k 1) (eqb k 2)
  where
    go : (s t : Bool) → cond s (map pos (stereos 1)) (cond t (map pos (stereos 2)) (map pos (stereos 0))) ≡ map pos (cond s (stereos 1) (cond t (stereos 2) (stereos 0)))
    go true t = refl
    go false true = refl
    go false false = refl
marks_are (negsuc k) h = absurd h
