-- Laws of lists compared place by place.
use Rattle.std.specs.Prelude.{ℕ, suc, ◌≡◌, refl, ◌≢◌, List, [], ◌∷◌, ◌++◌, map, length}
use Rattle.std.proofs.Common.{arith, ap, ap₂}
use Rattle.rules.specs.Fields.{Every}
use Rattle.compare_rules.specs.Along.{Compared, along}

-- ---- Joined lists

-- nothing in two lists joined: nothing in either
pub both_empty : {A : Type 0} (xs ys : List A) → xs ++ ys ≡ [] → (xs ≡ []) × (ys ≡ [])
both_empty [] ys h = (refl, h)
both_empty (x ∷ xs) ys h = absurd (let z : ◌≡◌ {A = ℕ} 0 1 = cc in omega arith)

pub map_joined : {A B : Type 0} (f : A → B) (xs ys : List A) → map f (xs ++ ys) ≡ map f xs ++ map f ys
map_joined f [] ys = refl
map_joined f (x ∷ xs) ys = ap (λ zs. f x ∷ zs) (map_joined f xs ys)

-- ---- The same list on both sides

pub along_self : {A B : Type 0} (c : Compared A B) → ((i : ℕ) (x : A) → c.both i x x ≡ []) → (i : ℕ) (xs : List A) → along c i xs xs ≡ []
unfolding along
along_self c h i [] = refl
along_self c h i (x ∷ xs) = rw (h i x) (along_self c h (suc i) xs)

-- ---- Nothing is listed: the same lists

-- one alone at a place is always listed: then as many stand on either side
pub along_many : {A B : Type 0} (c : Compared A B) → ((i : ℕ) (x : A) → c.left i x ≢ []) → ((i : ℕ) (x : A) → c.right i x ≢ []) →
    (i : ℕ) (xs ys : List A) → along c i xs ys ≡ [] → length xs ≡ length ys
unfolding along
along_many c l r i [] [] h = refl
along_many c l r i (x ∷ xs) [] h = absurd (l i x (both_empty (c.left i x) (along c (suc i) xs []) h).0)
along_many c l r i [] (y ∷ ys) h = absurd (r i y (both_empty (c.right i y) (along c (suc i) [] ys) h).0)
along_many c l r i (x ∷ xs) (y ∷ ys) h = ap suc (along_many c l r (suc i) xs ys (both_empty (c.both i x y) (along c (suc i) xs ys) h).1)

-- as many on either side, and two at one place without a difference are the same
pub along_same : {A B : Type 0} (c : Compared A B) (P : A → Type 0) →
    ((i : ℕ) (x y : A) → P x → P y → c.both i x y ≡ [] → x ≡ y) →
    (i : ℕ) (xs ys : List A) → Every P xs → Every P ys → length xs ≡ length ys → along c i xs ys ≡ [] → xs ≡ ys
unfolding along Every
along_same c P s i [] [] p q k h = refl
along_same c P s i (x ∷ xs) [] p q k h = absurd (omega arith)
along_same c P s i [] (y ∷ ys) p q k h = absurd (omega arith)
along_same c P s i (x ∷ xs) (y ∷ ys) p q k h =
    let e = both_empty (c.both i x y) (along c (suc i) xs ys) h in
    ap₂ (λ v vs. v ∷ vs) (s i x y p.0 q.0 e.0) (along_same c P s (suc i) xs ys p.1 q.1 (omega arith) e.1)

pub all_of : {A : Type 0} (P : A → Type 0) → ((x : A) → P x) → (xs : List A) → Every P xs
unfolding Every
all_of P f [] = tt
all_of P f (x ∷ xs) = (f x, all_of P f xs)

-- ---- The other way round

pub record Turns {A B : Type 0} (f : B → B) (c : Compared A B) : Type 0 where
  pub both : (i : ℕ) (x y : A) → c.both i y x ≡ map f (c.both i x y)
  pub left : (i : ℕ) (x : A) → c.right i x ≡ map f (c.left i x)
  pub right : (i : ℕ) (x : A) → c.left i x ≡ map f (c.right i x)

pub along_turned : {A B : Type 0} (f : B → B) (c : Compared A B) → Turns f c → (i : ℕ) (xs ys : List A) → along c i ys xs ≡ map f (along c i xs ys)
unfolding along
along_turned f c t i [] [] = refl
along_turned f c t i (x ∷ xs) [] = rw (map_joined f (c.left i x) (along c (suc i) xs []), ← t.left i x, ← along_turned f c t (suc i) xs [])
along_turned f c t i [] (y ∷ ys) = rw (map_joined f (c.right i y) (along c (suc i) [] ys), ← t.right i y, ← along_turned f c t (suc i) [] ys)
along_turned f c t i (x ∷ xs) (y ∷ ys) = rw (map_joined f (c.both i x y) (along c (suc i) xs ys), ← t.both i x y, ← along_turned f c t (suc i) xs ys)
