-- Counts and tables of two records.
use Rattle.std.specs.Prelude.{ℕ, zero, suc, ◌*◌, ◌^◌, ◌≤◌, ◌<◌, ◌≡◌, refl, List, [], ◌∷◌, ◌++◌, take, drop, ℤ, pos}
use Rattle.std.proofs.Common.{arith, sym, ap, ap₂, ◌∙◌, to_z, to_z-of_z}
use Rattle.std.specs.Int.{w32}
use Rattle.rules.specs.Rows.{rows_of}
use Rattle.compare_rules.specs.Along.{along}
use Rattle.compare_rules.specs.Differences.{Difference, place, figures, rowwise}
use Rattle.compare_rules.specs.Log.{Log, noted}
use Rattle.compare_rules.specs.Noted.{noted_joined}
use Rattle.compare_tables.specs.Smaller.{Smaller}
use Rattle.compare_record.specs.declared.Numbers.{Numbers}

-- numbers that an i32 holds
pub record SmallNumbers (x : Numbers) : Type 0 where
  pub n : x.n < 2 ^ 31
  pub m : x.m < 2 ^ 31
  pub chiral : x.chiral < 2 ^ 31

-- as `counts_apart` lists them
unfoldable pub counts_of : ℕ → Numbers → Numbers → List Difference
counts_of r x y =
    figures (place r 2 0 0) (pos x.n) (pos y.n)
    ++ (figures (place r 3 0 0) (pos x.m) (pos y.m)
    ++ figures (place r 4 0 0) (pos x.chiral) (pos y.chiral))

plain : (n : ℕ) → n < 2 ^ 31 → to_z w32 n ≡ pos n
plain n h = to_z-of_z {w = w32} {z = pos n} (record { sfits = h })

pub counts_are : (r : ℕ) (x y : Numbers) → SmallNumbers x → SmallNumbers y → (g g₁ g₂ g₃ : Log) →
    g₁ ≡ noted g (figures (place r 2 0 0) (to_z w32 x.n) (to_z w32 y.n)) →
    g₂ ≡ noted g₁ (figures (place r 3 0 0) (to_z w32 x.m) (to_z w32 y.m)) →
    g₃ ≡ noted g₂ (figures (place r 4 0 0) (to_z w32 x.chiral) (to_z w32 y.chiral)) →
    g₃ ≡ noted g (counts_of r x y)
unfolding counts_of
counts_are r x y s t g g₁ g₂ g₃ a b c =
    c ∙ ap₂ (λ (u v : ℤ). noted g₂ (figures (place r 4 0 0) u v)) (plain _ s.chiral) (plain _ t.chiral)
    ∙ ap (λ (h : Log). noted h (figures (place r 4 0 0) (pos x.chiral) (pos y.chiral)))
    (b ∙ ap₂ (λ (u v : ℤ). noted g₁ (figures (place r 3 0 0) u v)) (plain _ s.m) (plain _ t.m))
    ∙ sym (noted_joined g₁ (figures (place r 3 0 0) (pos x.m) (pos y.m)) (figures (place r 4 0 0) (pos x.chiral) (pos y.chiral)))
    ∙ ap (λ (h : Log). noted h (figures (place r 3 0 0) (pos x.m) (pos y.m) ++ figures (place r 4 0 0) (pos x.chiral) (pos y.chiral)))
    (a ∙ ap₂ (λ (u v : ℤ). noted g (figures (place r 2 0 0) u v)) (plain _ s.n) (plain _ t.n))
    ∙ sym (noted_joined g (figures (place r 2 0 0) (pos x.n) (pos y.n)) (figures (place r 3 0 0) (pos x.m) (pos y.m) ++ figures (place r 4 0 0) (pos x.chiral) (pos y.chiral)))

-- ---- Rows up to the smaller count

right_none : (r part i : ℕ) (us : List (List ℤ)) → along (rowwise r part) i [] us ≡ []
unfolding along
right_none r part i [] = refl
right_none r part i (u ∷ us) = right_none r part (suc i) us

left_none : (r part i : ℕ) (ts : List (List ℤ)) → along (rowwise r part) i ts [] ≡ []
unfolding along
left_none r part i [] = refl
left_none r part i (t ∷ ts) = left_none r part (suc i) ts

left_fewer : (r part w n m i : ℕ) (t u : List ℤ) → n ≤ m → along (rowwise r part) i (rows_of w n t) (rows_of w m u) ≡ along (rowwise r part) i (rows_of w n t) (rows_of w n u)
unfolding along rows_of
left_fewer r part w zero m i t u h = right_none r part i (rows_of w m u)
left_fewer r part w (suc n) zero i t u h = absurd (omega arith)
left_fewer r part w (suc n) (suc m) i t u h =
    ap (λ (ds : List Difference). (rowwise r part).both i (take w t) (take w u) ++ ds) (left_fewer r part w n m (suc i) (drop w t) (drop w u) (omega arith))

right_fewer : (r part w n m i : ℕ) (t u : List ℤ) → m ≤ n → along (rowwise r part) i (rows_of w n t) (rows_of w m u) ≡ along (rowwise r part) i (rows_of w m t) (rows_of w m u)
unfolding along rows_of
right_fewer r part w n zero i t u h = left_none r part i (rows_of w n t)
right_fewer r part w zero (suc m) i t u h = absurd (omega arith)
right_fewer r part w (suc n) (suc m) i t u h =
    ap (λ (ds : List Difference). (rowwise r part).both i (take w t) (take w u) ++ ds) (right_fewer r part w n m (suc i) (drop w t) (drop w u) (omega arith))

times_up : (w k n : ℕ) → k ≤ n → w * k ≤ w * n
times_up zero k n h = omega arith
times_up (suc w) k n h = omega (arith, times_up w k n h)

pub room_first : {n m k : ℕ} (w len : ℕ) → Smaller n m k → w * n ≤ len → w * k ≤ len
room_first w len (Smaller.first h) f = f
room_first {n} {m} w len (Smaller.second h) f = omega (arith, times_up w m n h)

pub room_second : {n m k : ℕ} (w len : ℕ) → Smaller n m k → w * m ≤ len → w * k ≤ len
room_second {n} {m} w len (Smaller.first h) f = omega (arith, times_up w n m (omega arith))
room_second w len (Smaller.second h) f = f

pub few : {n m k : ℕ} → Smaller n m k → n < 2 ^ 32 → m < 2 ^ 32 → k < 2 ^ 62
few (Smaller.first h) f g = omega arith
few (Smaller.second h) f g = omega arith

pub rows_fewer : {n m k : ℕ} (r part w : ℕ) (t u : List ℤ) (g g' : Log) → Smaller n m k →
    g' ≡ noted g (along (rowwise r part) 1 (rows_of w k t) (rows_of w k u)) → g' ≡ noted g (along (rowwise r part) 1 (rows_of w n t) (rows_of w m u))
rows_fewer {n} {m} r part w t u g g' (Smaller.first h) e = e ∙ ap (noted g) (sym (left_fewer r part w n m 1 t u (omega arith)))
rows_fewer {n} {m} r part w t u g g' (Smaller.second h) e = e ∙ ap (noted g) (sym (right_fewer r part w n m 1 t u h))

pub ruleset number_laws = (room_first, room_second, few, rows_fewer)
