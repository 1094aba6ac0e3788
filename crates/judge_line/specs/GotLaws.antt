-- Laws of `then` and `need`: where a value is found, each step before it found one.
use Rattle.std.specs.Prelude.{ℕ, ◌≡◌, refl, Bool, true, false, cond}
use Rattle.std.proofs.Common.{arith}
use Rattle.judge_line.specs.Got.{Got, got, bad, then, need}

pub got_inj : {A : Type 0} {a b : A} → ◌≡◌ {A = Got A} (got a) (got b) → a ≡ b
got_inj p = cc

pub bad_got : {A X : Type 0} {e c : ℕ} {a : A} → ◌≡◌ {A = Got A} (bad e c) (got a) → X
bad_got p = absurd (let z : ◌≡◌ {A = ℕ} 0 1 = cc in omega arith)

pub then_got : {A B : Type 0} (x : Got A) (f : A → Got B) (v : B) → then x f ≡ got v → (a : A) × (x ≡ got a) × (f a ≡ got v)
unfolding then
then_got (got a) f v p = (a, refl, p)
then_got (bad e c) f v p = bad_got p

pub then_is : {A B : Type 0} (x : Got A) (f : A → Got B) (a : A) → x ≡ got a → then x f ≡ f a
unfolding then
then_is x f a p = rw p

pub then_then : {A B C : Type 0} (x : Got A) (f : A → Got B) (g : B → Got C) → then (then x f) g ≡ then x (λ a. then (f a) g)
unfolding then
then_then (got a) f g = refl
then_then (bad e column) f g = refl

pub need_then : {A B : Type 0} (b : Bool) (e column : ℕ) (x : Got A) (g : A → Got B) → then (need b e column x) g ≡ need b e column (then x g)
unfolding need then
need_then true e column x g = refl
need_then false e column x g = refl

pub need_got : {A : Type 0} (b : Bool) (e c : ℕ) (x : Got A) (v : A) → need b e c x ≡ got v → (b ≡ true) × (x ≡ got v)
unfolding need
need_got true e c x v p = (refl, p)
need_got false e c x v p = bad_got p

pub need_is : {A : Type 0} (b : Bool) (e c : ℕ) (x : Got A) → b ≡ true → need b e c x ≡ x
unfolding need
need_is b e c x p = rw p

-- a test decides: with what it says, and what was then found
pub cond_by : {A X : Type 0} (t : Bool) (x y v : A) → cond t x y ≡ v → (t ≡ true → x ≡ v → X) → (t ≡ false → y ≡ v → X) → X
cond_by true x y v h p q = p refl h
cond_by false x y v h p q = q refl h
