-- What is found of a line tells its demands apart: where a value was found they all hold, and a refusal is the one of the first that does not hold.
-- There is one such refusal at most, so where this is so, finding a refusal and its being due are the same.
use Rattle.std.specs.Prelude.{ℕ, ◌≡◌, refl, ◌⊎◌, ◌↔◌, List, [], ◌∷◌, ◌++◌, Bool, true, false, cond}
use Rattle.std.proofs.Common.{sym, ap₂, ◌∙◌, subst, inl, inr, append-nil}
use Rattle.field_numbers.specs.Number.{OneOf}
use Rattle.judge_line.specs.Got.{Got, got, bad, then, need}
use Rattle.judge_refusals.specs.Demand.{Demand, ◌else◌at_column◌, All, Refused, Some, given, whichever}

pub data Tells {A : Type 0} (ds : List Demand) : Got A → Type 0 where
  value : {a : A} → All ds → Tells ds (got a)
  refusal : {e c : ℕ} → Refused ds e c → Tells ds (bad e c)

-- ---- one refusal

pub not_both : {X : Type 0} (ds : List Demand) (e c : ℕ) → All ds → Refused ds e c → X
not_both [] e c a r = absurd r
not_both (d ∷ ds) e c a (inl r) = absurd (r.0 a.0)
not_both (d ∷ ds) e c a (inr r) = not_both ds e c a.1 r.1

pub one_refusal : (ds : List Demand) (e c e' c' : ℕ) → Refused ds e c → Refused ds e' c' → (e ≡ e') × (c ≡ c')
one_refusal [] e c e' c' r s = absurd r
one_refusal (d ∷ ds) e c e' c' (inl r) (inl s) = (r.1 ∙ sym s.1, r.2 ∙ sym s.2)
one_refusal (d ∷ ds) e c e' c' (inl r) (inr s) = absurd (r.0 s.0)
one_refusal (d ∷ ds) e c e' c' (inr r) (inl s) = absurd (s.0 r.0)
one_refusal (d ∷ ds) e c e' c' (inr r) (inr s) = one_refusal ds e c e' c' r.1 s.1

module _ {A : Type 0} {ds : List Demand} where
  pub tells_bad : {x : Got A} (e c : ℕ) → Tells ds x → (x ≡ bad e c) ↔ Refused ds e c
  tells_bad {x} e c t = (λ h. to (subst (Tells ds) h t), back t)
    where
      to : Tells {A = A} ds (bad e c) → Refused ds e c
      to (refusal r) = r

      back : {x : Got A} → Tells ds x → Refused ds e c → x ≡ bad e c
      back (value h) r = not_both ds e c h r
      back (refusal {e = e'} {c = c'} h) r = let s = one_refusal ds e' c' e c h r in ap₂ bad s.0 s.1

  pub tells_got : {x : Got A} → Tells ds x → (Some λ a. x ≡ got a) ↔ All ds
  tells_got {x} t = (λ h. to (subst (Tells ds) h.1 t), back t)
    where
      to : {a : A} → Tells ds (got a) → All ds
      to (value h) = h

      back : {x : Got A} → Tells ds x → All ds → Some λ a. x ≡ got a
      back (value {a = a} h) r = (a, refl)
      back (refusal {e = e} {c = c} h) r = not_both ds e c r h

-- ---- demands in a row

pub all_append : (ds es : List Demand) → All ds → All es → All (ds ++ es)
all_append [] es a b = b
all_append (d ∷ ds) es a b = (a.0, all_append ds es a.1 b)

refused_here : (ds es : List Demand) (e c : ℕ) → Refused ds e c → Refused (ds ++ es) e c
refused_here [] es e c r = absurd r
refused_here (d ∷ ds) es e c (inl r) = inl r
refused_here (d ∷ ds) es e c (inr r) = inr (r.0, refused_here ds es e c r.1)

refused_later : (ds es : List Demand) (e c : ℕ) → All ds → Refused es e c → Refused (ds ++ es) e c
refused_later [] es e c a r = r
refused_later (d ∷ ds) es e c a r = inr (a.0, refused_later ds es e c a.1 r)

-- demands that hold, before others
pub past : {A : Type 0} (ds : List Demand) {es : List Demand} {x : Got A} → All ds → Tells es x → Tells (ds ++ es) x
past ds {es = es} h (value t) = value (all_append ds es h t)
past ds {es = es} h (refusal {e = e} {c = c} t) = refusal (refused_later ds es e c h t)

-- and after them
pub until : {A : Type 0} {ds : List Demand} (es : List Demand) {x : Got A} → Tells ds x → (All ds → All es) → Tells (ds ++ es) x
until {ds = ds} es (value t) h = value (all_append ds es t (h t))
until {ds = ds} es (refusal {e = e} {c = c} t) h = refusal (refused_here ds es e c t)

-- one part is judged, and then the rest
pub then_tells : {A B : Type 0} {ds es : List Demand} {x : Got A} {f : A → Got B} → Tells ds x → ((a : A) → x ≡ got a → Tells es (f a)) → Tells (ds ++ es) (then x f)
unfolding then
then_tells {ds = ds} (value {a = a} t) h = past ds t (h a refl)
then_tells {ds = ds} {es = es} (refusal {e = e} {c = c} t) h = refusal (refused_here ds es e c t)

-- a test for what a demand says
pub need_tells : {A G : Type 0} {ds : List Demand} (t : Bool) {e c : ℕ} {x : Got A} →
    (t ≡ true → G) → (t ≡ false → ¬ G) → (t ≡ true → Tells ds x) → Tells (G else e at_column c ∷ ds) (need t e c x)
unfolding need
need_tells {G = G} true {e} {c} good ill h = past (G else e at_column c ∷ []) (good refl, tt) (h refl)
need_tells false good ill h = refusal (inl (ill refl, refl, refl))

-- a test that decides what is looked for
pub cond_tells : {A : Type 0} {ds : List Demand} (t : Bool) {x y : Got A} → (t ≡ true → Tells ds x) → (t ≡ false → Tells ds y) → Tells ds (cond t x y)
cond_tells true f g = f refl
cond_tells false f g = g refl

-- nothing more is demanded
pub no_more : {A : Type 0} (ds : List Demand) {x : Got A} → Tells (ds ++ []) x → Tells ds x
no_more ds {x} t = subst (λ es. Tells es x) (append-nil ds) t

pub then_last : {A B : Type 0} {ds : List Demand} {x : Got A} (f : A → B) → Tells ds x → Tells ds (then x (λ a. got (f a)))
unfolding then
then_last f (value t) = value t
then_last f (refusal t) = refusal t

-- ---- demands that are made only where C holds

module _ {C : Type 0} where
  pub all_given : (ds : List Demand) → (C → All ds) → All (given C ds)
  all_given [] h = tt
  all_given (d ∷ ds) h = ((λ c. (h c).0), all_given ds (λ c. (h c).1))

  refused_given : (ds : List Demand) (e c : ℕ) → C → Refused ds e c → Refused (given C ds) e c
  refused_given [] e c k r = r
  refused_given (d ∷ ds) e c k (inl r) = inl ((λ h. r.0 (h k)), r.1, r.2)
  refused_given (d ∷ ds) e c k (inr r) = inr ((λ h. r.0), refused_given ds e c k r.1)

  pub given_tells : {A : Type 0} {ds : List Demand} {x : Got A} → C → Tells ds x → Tells (given C ds) x
  given_tells {ds = ds} k (value t) = value (all_given ds (λ c. t))
  given_tells {ds = ds} k (refusal {e = e} {c = c} t) = refusal (refused_given ds e c k t)

  given_all : (ds : List Demand) → C → All (given C ds) → All ds
  given_all [] c h = tt
  given_all (d ∷ ds) c h = (h.0 c, given_all ds c h.1)

not_first : {A : Type 0} {a b : A} {xs : List A} → OneOf a (b ∷ xs) → ¬ (b ≡ a) → OneOf a xs
not_first OneOf.this n = absurd (n refl)
not_first (OneOf.later o) n = o

module _ {A : Type 0} (C : A → Type 0) (ds : A → List Demand) where
  pub whichever_all : (xs : List A) → ((b : A) → C b → All (ds b)) → All (whichever xs C ds)
  whichever_all [] h = tt
  whichever_all (x ∷ xs) h = all_append (given (C x) (ds x)) (whichever xs C ds) (all_given (ds x) (h x)) (whichever_all xs h)

  -- it is this one of the list, and none other
  module _ (a : A) (c : C a) (only : (b : A) → (b ≡ a) ⊎ (¬ C b)) where
    others : All (ds a) → (b : A) → C b → All (ds b)
    others h b k = go (only b)
      where
        go : (b ≡ a) ⊎ (¬ C b) → All (ds b)
        go (inl e) = rw e h
        go (inr n) = absurd (n k)

    pub whichever_tells : {B : Type 0} {x : Got B} (xs : List A) → OneOf a xs → Tells (ds a) x → Tells (whichever xs C ds) x
    whichever_tells [] o t = elim o [ ]
    whichever_tells {x = y} (x ∷ xs) o t = go (only x) o (λ p. whichever_tells xs p t)
      where
        go : (x ≡ a) ⊎ (¬ C x) → OneOf a (x ∷ xs) → (OneOf a xs → Tells (whichever xs C ds) y) → Tells (whichever (x ∷ xs) C ds) y
        go (inl e) o more =
            let t' : Tells (ds x) y = rw e t in
            let k : C x = rw e c in
            until (whichever xs C ds) (given_tells k t') (λ h. whichever_all xs (others (rw e at (given_all (ds x) k h))))
        go (inr n) o more = past (given (C x) (ds x)) (all_given (ds x) (λ k. absurd (n k))) (more (not_first o (λ e. n (rw e c))))
