-- As long as fewer than n(n-1)/2 pairs of n atoms are bonded, a pair is free.
use Rattle.std.specs.Prelude.{ℕ, zero, suc, ◌+◌, ◌-◌, ◌*◌, ◌≤◌, ◌<◌, ◌≡◌, refl, List, [], ◌∷◌, ◌++◌, Bool, true, false, pos, length}
use Rattle.std.proofs.Common.{arith, sym, ap, ◌∙◌, length-append}
use Rattle.text.specs.Laws.{true_false}
use Rattle.rules.specs.Forms.{Bond}
use Rattle.rules.specs.Record.{SamePair, along, against, NewPair, NoPairTwice}
use Rattle.judge_pairs.specs.Taken.{same_pair}
use Rattle.judge_pairs.proofs.Agree.{same_sound, same_complete}
use Rattle.judge_pairs.specs.Append.{same_back, new_like, new_append}
use Rattle.judge_pairs.specs.Free.{Proper, All, FreePair, none, more}

all_append : (P : Bond → Type 0) (bs cs : List Bond) → All P bs → All P cs → All P (bs ++ cs)
all_append P [] cs h k = k
all_append P (b ∷ bs) cs (more p h) k = more p (all_append P bs cs h k)

-- ---- A bond takes away at most one of a list without repeats

Besides : (Bond → Type 0) → Bond → Bond → Type 0
Besides P u b = P b × ¬ SamePair b u

record Rest (P : Bond → Type 0) (u : Bond) (cs : List Bond) : Type 0 where
  left : List Bond
  once : NoPairTwice left
  all : All (Besides P u) left
  long : length cs ≤ suc (length left)
  from : (b : Bond) → NewPair b cs → NewPair b left

besides : (P : Bond → Type 0) (u : Bond) (cs : List Bond) → NewPair u cs → All P cs → All (Besides P u) cs
unfolding NewPair Besides
besides P u [] n none = none
besides P u (c ∷ cs) n (more x h) = more (x, (λ s. n.0 (same_back s))) (besides P u cs n.1 h)

take_out : (P : Bond → Type 0) (u : Bond) (cs : List Bond) → NoPairTwice cs → All P cs → Rest P u cs
unfolding NoPairTwice NewPair Besides
take_out P u [] a h = record { left = []; once = tt; all = none; long = omega arith; from = λ b n. n }
take_out P u (c ∷ cs) a (more x h) = go (same_pair u c) refl (take_out P u cs a.1 h)
  where
    go : (t : Bool) → same_pair u c ≡ t → Rest P u cs → Rest P u (c ∷ cs)
    go true e r = record { left = cs; once = a.1; all = besides P u cs (new_like cs (same_sound u c e) a.0) h; long = omega arith; from = λ b n. n.1 }
    go false e r =
        record {
          left = c ∷ r.left;
          once = (r.from c a.0, r.once);
          all = more (x, (λ s. true_false (sym (same_complete u c (same_back s)) ∙ e))) r.all;
          long = omega (arith, r.long);
          from = λ b n. (n.0, r.from b n.1);
        }

left_over : (P : Bond → Type 0) (used cs : List Bond) → NoPairTwice cs → All P cs → length used < length cs → (b : Bond) × P b × NewPair b used
unfolding NewPair Besides
left_over P [] [] a h l = absurd (omega arith)
left_over P [] (c ∷ cs) a (more x h) l = (c, x, tt)
left_over P (u ∷ used) cs a h l =
    let r = take_out P u cs a h in
    let i = left_over (Besides P u) used r.left r.once r.all (omega (arith, r.long)) in
    (i.0, i.1.0, (i.1.1, i.2))

-- ---- All pairs of atoms 1 to n: each atom with those before it

joining : ℕ → ℕ → Bond
joining x y = record { first = x; second = y; type = 1; stereo = 0; topology = 0; centre = pos 0 }

with_each : ℕ → ℕ → List Bond
with_each y zero = []
with_each y (suc x) = joining (suc x) y ∷ with_each y x

all_pairs : ℕ → List Bond
all_pairs zero = []
all_pairs (suc n) = with_each (suc n) n ++ all_pairs n

with_length : (y x : ℕ) → length (with_each y x) ≡ x
unfolding with_each
with_length y zero = refl
with_length y (suc x) = ap suc (with_length y x)

all_length : (n : ℕ) → 2 * length (all_pairs (suc n)) ≡ suc n * n
unfolding all_pairs with_each
all_length zero = refl
all_length (suc n) =
    let i = all_length n in
    let e = length-append (with_each (suc (suc n)) (suc n)) (all_pairs (suc n)) in
    let t : length (all_pairs (suc (suc n))) ≡ suc n + length (all_pairs (suc n)) =
    e ∙ ap (λ (k : ℕ). k + length (all_pairs (suc n))) (with_length (suc (suc n)) (suc n)) in
    omega (arith, i, t)

with_proper : (n y x : ℕ) → x < y → y ≤ n → All (Proper n) (with_each y x)
unfolding with_each joining
with_proper n y zero h l = none
with_proper n y (suc x) h l = more {b = joining (suc x) y} (omega arith) (with_proper n y x (omega arith) l)

all_proper : (m n : ℕ) → n ≤ m → All (Proper m) (all_pairs n)
unfolding all_pairs
all_proper m zero l = none
all_proper m (suc n) l = all_append (Proper m) (with_each (suc n) n) (all_pairs n) (with_proper m (suc n) n (omega arith) l) (all_proper m n (omega arith))

-- an atom above n is an end of none of them
above_new : (n : ℕ) (b : Bond) (cs : List Bond) → n < b.second → All (Proper n) cs → NewPair b cs
unfolding NewPair
above_new n b [] h none = tt
above_new n b (c ∷ cs) h (more k r) =
    (elim [ along e f ↦ omega (arith, f, k.second_high) | against e f ↦ omega (arith, f, k.first_high) ], above_new n b cs h r)

with_new : (y x z : ℕ) → x < z → z < y → NewPair (joining z y) (with_each y x)
unfolding NewPair with_each joining
with_new y zero z h l = tt
with_new y (suc x) z h l = (elim [ along e f ↦ omega (arith, e) | against e f ↦ omega (arith, e) ], with_new y x z (omega arith) l)

with_once : (n y x : ℕ) (cs : List Bond) → x < y → n < y → All (Proper n) cs → NoPairTwice cs → NoPairTwice (with_each y x ++ cs)
unfolding NoPairTwice with_each joining
with_once n y zero cs h l k r = r
with_once n y (suc x) cs h l k r = (
  (new_append (joining (suc x) y) (with_each y x) cs).1 (with_new y x (suc x) (omega arith) h, above_new n (joining (suc x) y) cs l k),
  with_once n y x cs (omega arith) l k r,
)

all_once : (n : ℕ) → NoPairTwice (all_pairs n)
unfolding all_pairs NoPairTwice
all_once zero = tt
all_once (suc n) = with_once n (suc n) n (all_pairs n) (omega arith) (omega arith) (all_proper n n (omega arith)) (all_once n)

-- ---- A free pair

pub free_pair : (n : ℕ) (bs : List Bond) → 2 * (length bs + 1) ≤ n * (n - 1) → FreePair n bs
free_pair zero bs h = absurd (omega arith)
free_pair (suc n) bs h =
    let e : suc n - 1 ≡ n = omega arith in
    let k : 2 * (length bs + 1) ≤ suc n * n = rw e at h in
    let l : length bs < length (all_pairs (suc n)) = omega (arith, all_length n) in
    let r = left_over (Proper (suc n)) bs (all_pairs (suc n)) (all_once (suc n)) (all_proper (suc n) (suc n) (omega arith)) l in
    record {
      x = r.0.first;
      y = r.0.second;
      x_low = r.1.first_low;
      x_high = r.1.first_high;
      y_low = r.1.second_low;
      y_high = r.1.second_high;
      differ = r.1.differ;
      new = λ b p q. new_like bs (along p q) r.2;
    }
