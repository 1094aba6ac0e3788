-- Laws on the search for the first byte that passes a test, for any test.
use Rattle.std.specs.Prelude.{Some, None, ℕ, zero, suc, ◌+◌, ◌-◌, ◌≤◌, ◌<◌, ◌≡◌, refl, Bool, true, false, cond, [], ◌∷◌, length, get_or, take, drop}
use Rattle.std.proofs.Math.Numerals.{add-one}
use Rattle.std.proofs.Common.{arith, ap, subst, ◌∙◌, drop_of_length-le, drop-cons, drop-drop}
use Rattle.text.specs.Text.{Bytes, Each}
use Rattle.text.specs.Find.{first_from}

-- what holds of each byte, and what follows from it
pub each_as : {P Q : ℕ → Type 0} (xs : Bytes) → ((b : ℕ) → P b → Q b) → Each P xs → Each Q xs
unfolding Each
each_as [] f e = tt
each_as (x ∷ xs) f e = (f x e.0, each_as xs f e.1)

-- from place i of a list, where that place is called k
module _ (p : ℕ → Bool) (xs : Bytes) (i k : ℕ) where
  pub first_hit : i < length xs → p (get_or xs i 0) ≡ true → first_from p k (drop i xs) ≡ Some k
  unfolding first_from
  first_hit h t = rw (drop-cons xs i 0 h, t)

  pub first_miss : i < length xs → p (get_or xs i 0) ≡ false → first_from p k (drop i xs) ≡ first_from p (k + 1) (drop (i + 1) xs)
  unfolding first_from
  first_miss h t = rw (drop-cons xs i 0 h, t, add-one k, add-one i)

  pub first_none : length xs ≤ i → first_from p k (drop i xs) ≡ None
  unfolding first_from
  first_none h = rw (drop_of_length-le xs h)

-- where it is found
within_by : (x : Bool) (p : ℕ → Bool) (i k : ℕ) (xs : Bytes) → (first_from p (suc i) xs ≡ Some k → (suc i ≤ k) × (k < suc i + length xs)) →
    cond x (Some i) (first_from p (suc i) xs) ≡ Some k → (i ≤ k) × (k < i + suc (length xs))
within_by true p i k xs ih h = let e : i ≡ k = cc in omega arith
within_by false p i k xs ih h = let r = ih h in omega arith

pub first_within : (p : ℕ → Bool) (i k : ℕ) (xs : Bytes) → first_from p i xs ≡ Some k → (i ≤ k) × (k < i + length xs)
unfolding first_from
first_within p i k [] h = let z : ◌≡◌ {A = ℕ} 0 1 = cc in omega arith
first_within p i k (x ∷ xs) h = within_by (p x) p i k xs (first_within p (suc i) k xs) h

-- what is found passes the test
passes_by : (x i k : ℕ) (t : Bool) (p : ℕ → Bool) (xs : Bytes) → p x ≡ t → (first_from p (suc i) xs ≡ Some k → p (get_or xs (k - suc i) 0) ≡ true) →
    cond t (Some i) (first_from p (suc i) xs) ≡ Some k → p (get_or (x ∷ xs) (k - i) 0) ≡ true
passes_by x i k true p xs e ih h =
    let same : i ≡ k = cc in
    let z : k - i ≡ 0 = omega arith in
    rw z e
passes_by x i k false p xs e ih h =
    let w = first_within p (suc i) k xs h in
    let z : k - i ≡ suc (k - suc i) = omega arith in
    rw z (ih h)

pub first_passes : (p : ℕ → Bool) (i k : ℕ) (xs : Bytes) → first_from p i xs ≡ Some k → p (get_or xs (k - i) 0) ≡ true
unfolding first_from
first_passes p i k [] h = absurd (let z : ◌≡◌ {A = ℕ} 0 1 = cc in omega arith)
first_passes p i k (x ∷ xs) h = passes_by x i k (p x) p xs refl (first_passes p (suc i) k xs) h

-- no byte before it does
abbrev Fails : (ℕ → Bool) → ℕ → Type 0
Fails p b = p b ≡ false

before_by : (x i k : ℕ) (t : Bool) (p : ℕ → Bool) (xs : Bytes) → p x ≡ t → (first_from p (suc i) xs ≡ Some k → Each (Fails p) (take (k - suc i) xs)) →
    cond t (Some i) (first_from p (suc i) xs) ≡ Some k → Each (Fails p) (take (k - i) (x ∷ xs))
unfolding Each
before_by x i k true p xs e ih h =
    let same : i ≡ k = cc in
    let z : k - i ≡ 0 = omega arith in
    rw z tt
before_by x i k false p xs e ih h =
    let w = first_within p (suc i) k xs h in
    let z : k - i ≡ suc (k - suc i) = omega arith in
    rw z (e, ih h)

pub first_before : (p : ℕ → Bool) (i k : ℕ) (xs : Bytes) → first_from p i xs ≡ Some k → Each (λ b. p b ≡ false) (take (k - i) xs)
unfolding first_from
first_before p i k [] h = absurd (let z : ◌≡◌ {A = ℕ} 0 1 = cc in omega arith)
first_before p i k (x ∷ xs) h = before_by x i k (p x) p xs refl (first_before p (suc i) k xs) h

-- nothing is found where each byte fails the test, and only there
nothing_by : (x i : ℕ) (t : Bool) (p : ℕ → Bool) (xs : Bytes) → p x ≡ t → (first_from p (suc i) xs ≡ None → Each (Fails p) xs) →
    cond t (Some i) (first_from p (suc i) xs) ≡ None → Each (Fails p) (x ∷ xs)
unfolding Each
nothing_by x i true p xs e ih h = absurd (let z : ◌≡◌ {A = ℕ} 0 1 = cc in omega arith)
nothing_by x i false p xs e ih h = (e, ih h)

pub first_nothing : (p : ℕ → Bool) (i : ℕ) (xs : Bytes) → first_from p i xs ≡ None → Each (λ b. p b ≡ false) xs
unfolding first_from Each
first_nothing p i [] h = tt
first_nothing p i (x ∷ xs) h = nothing_by x i (p x) p xs refl (first_nothing p (suc i) xs) h

pub nothing_first : (p : ℕ → Bool) (i : ℕ) (xs : Bytes) → Each (λ b. p b ≡ false) xs → first_from p i xs ≡ None
unfolding first_from Each
nothing_first p i [] e = refl
nothing_first p i (x ∷ xs) e = rw e.0 (nothing_first p (suc i) xs e.1)

-- nothing is found from a later place on either
each_drop : (P : ℕ → Type 0) (k : ℕ) (xs : Bytes) → Each P xs → Each P (drop k xs)
unfolding Each
each_drop P zero xs e = e
each_drop P (suc k) [] e = tt
each_drop P (suc k) (x ∷ xs) e = each_drop P k xs e.1

pub nothing_later : (p : ℕ → Bool) (xs : Bytes) (i j k m : ℕ) → first_from p k (drop i xs) ≡ None → i ≤ j → first_from p m (drop j xs) ≡ None
nothing_later p xs i j k m h g =
    let e : i + (j - i) ≡ j = omega arith in
    let d : drop (j - i) (drop i xs) ≡ drop j xs = drop-drop (j - i) i xs ∙ ap (λ (n : ℕ). drop n xs) e in
    nothing_first p m (drop j xs) (subst (Each (Fails p)) d (each_drop (Fails p) (j - i) (drop i xs) (first_nothing p k (drop i xs) h)))
