-- Small laws on tests and lists that the layers above cite too.
use Rattle.std.specs.Prelude.{ℕ, zero, suc, ◌+◌, ◌-◌, ◌<◌, ◌≡◌, refl, List, [], ◌∷◌, ◌++◌, Bool, true, false, ◌&&◌, ◌||◌, eqb, get_or, set, length, take, drop}
use Rattle.std.proofs.Common.{arith, sym, ◌∙◌, true≢false, length-drop, take_all, eq-eqb, ne_eqb, eqb-true}
use Rattle.std.proofs.lemmas.List.Edits.{sets}
use Rattle.std.proofs.lemmas.Bool.{eqb-false}
use Rattle.text.specs.Text.{Bytes, Each}

-- a test has one answer
pub true_false : {X : Type 0} → true ≡ false → X
true_false h = absurd (true≢false h)

pub false_true : {X : Type 0} → false ≡ true → X
false_true h = true_false (sym h)

pub never_both : {X : Type 0} (t : Bool) → t ≡ true → t ≡ false → X
never_both t p q = true_false (sym p ∙ q)

pub and_true : (a b : Bool) → (a && b) ≡ true → (a ≡ true) × (b ≡ true)
and_true true b h = (refl, h)
and_true false b h = false_true h

pub or_false : (a b : Bool) → (a || b) ≡ false → (a ≡ false) × (b ≡ false)
or_false true b h = true_false h
or_false false b h = (refl, h)

pub eqb_turn : (a b : ℕ) → eqb a b ≡ eqb b a
eqb_turn a b = go (eqb a b) refl
  where
    go : (t : Bool) → eqb a b ≡ t → t ≡ eqb b a
    go true e = sym (eq-eqb b a (sym (eqb-true a b e)))
    go false e = sym (ne_eqb b a (λ q. eqb-false a b e (sym q)))

-- below the length it does not matter what is read past the end
pub get_d_any : {A : Type 0} (l : List A) (i : ℕ) (d e : A) → i < length l → get_or l i d ≡ get_or l i e
get_d_any [] i d e h = absurd (omega arith)
get_d_any (x ∷ l) zero d e h = refl
get_d_any (x ∷ l) (suc i) d e h = get_d_any l i d e (omega arith)

pub sets_append : {A : Type 0} (xs ys t : List A) (i : ℕ) → sets t i (xs ++ ys) ≡ sets (sets t i xs) (i + length xs) ys
sets_append [] ys t i = let e : i + 0 ≡ i = omega arith in rw e
sets_append (x ∷ xs) ys t i = let e : i + suc (length xs) ≡ suc i + length xs = omega arith in sets_append xs ys (set t i x) (suc i) ∙ rw e

-- what is lent from place i on
pub tail_is : (l : Bytes) (i : ℕ) → take (length l - i) (drop i l) ≡ drop i l
tail_is l i = take_all (length l - i) (drop i l) (omega (arith, length-drop i l))

pub each_append : (P : ℕ → Type 0) (a b : Bytes) → Each P a → Each P b → Each P (a ++ b)
unfolding Each
each_append P [] b h k = k
each_append P (x ∷ a) b h k = (h.0, each_append P a b h.1 k)
