-- How many pairs of bonds the rule against repeated pairs calls for: each bond beside those before it, in order from bond 1, up to the first of the same pair.
use Rattle.std.specs.Prelude.{ℕ, suc, ◌+◌, ◌-◌, ◌*◌, ◌≡◌, refl, Bool, true, false, cond}
use native.Mathlib.Omega.{arith}
use Rattle.std.proofs.Common.{sym, ◌∙◌, subst, length-append}
use Rattle.std.proofs.Math.Path.{ap}
use mathlib.Core.List.{List, [], ◌∷◌, ◌++◌, append_assoc, append-nil}
use Rattle.std.proofs.Math.ListN.{length}
use Rattle.text.specs.Text.{Line}
use Rattle.rules.specs.Forms.{Bond, BondLine}
use Rattle.rules.specs.Record.{NewPair, NoPairTwice}
use Rattle.judge_pairs.specs.Taken.{same_pair, pair_taken}
use Rattle.judge_pairs.proofs.Agree.{same_sound, same_complete, taken_no}
use Rattle.judge_pairs.specs.Append.{pair_once, pair_front}
use Rattle.judge_pairs.specs.Compared.{held_against, compared_in, Asked, FirstSame, triangle, triangle_twice, its_own, not_its_own, here, later}

-- ---- One bond beside those before it

pub held_new : (b : Bond) (cs : List Bond) → NewPair b cs → held_against b cs ≡ length cs
unfolding held_against NewPair
held_new b [] n = refl
held_new b (c ∷ cs) n = go (same_pair b c) refl (held_new b cs n.1)
  where
    go : (t : Bool) → same_pair b c ≡ t → held_against b cs ≡ length cs → suc (cond t 0 (held_against b cs)) ≡ suc (length cs)
    go true e h = absurd (n.0 (same_sound b c e))
    go false e h = ap suc h

pub held_first : (b : Bond) (cs : List Bond) (j : ℕ) → FirstSame b cs j → held_against b cs ≡ j
unfolding held_against
held_first b [] j f = elim f [ ]
held_first b (c ∷ cs) j (here s) = rw (same_complete b c s)
held_first b (c ∷ cs) j (later d f) = go (same_pair b c) refl (held_first b cs _ f)
  where
    go : {i : ℕ} (t : Bool) → same_pair b c ≡ t → held_against b cs ≡ i → suc (cond t 0 (held_against b cs)) ≡ suc i
    go true e h = absurd (d (same_sound b c e))
    go false e h = ap suc h

first_taken : (b : Bond) (cs : List Bond) (j : ℕ) → FirstSame b cs j → pair_taken b cs ≡ true
unfolding pair_taken
first_taken b [] j f = elim f [ ]
first_taken b (c ∷ cs) j (here s) = rw (same_complete b c s)
first_taken b (c ∷ cs) j (later d f) = go (same_pair b c) refl (first_taken b cs _ f)
  where
    go : (t : Bool) → same_pair b c ≡ t → pair_taken b cs ≡ true → cond t true (pair_taken b cs) ≡ true
    go true e h = refl
    go false e h = h

-- there is one first of the pair
pub first_one : {b : Bond} {cs : List Bond} {i j : ℕ} → FirstSame b cs i → FirstSame b cs j → i ≡ j
first_one {b} {cs} {i} {j} f g = sym (held_first b cs i f) ∙ held_first b cs j g

-- ---- Bonds without a repeat

-- bonds without a repeat, and whatever comes after them
apart_then : (before bs cs : List Bond) → NoPairTwice (before ++ bs) →
    compared_in before (bs ++ cs) + triangle (length before) ≡ triangle (length before + length bs) + compared_in (before ++ bs) cs
unfolding compared_in triangle
apart_then before [] cs h =
    let n : length before + 0 ≡ length before = omega arith in
    rw (n, append-nil before) (omega arith)
apart_then before (b ∷ bs) cs h =
    let one : (before ++ (b ∷ [])) ++ bs ≡ before ++ (b ∷ bs) = append_assoc before (b ∷ []) bs in
    let h' = subst NoPairTwice (sym one) h in
    let new = ((pair_once before b).0 (pair_front (before ++ (b ∷ [])) bs h')).1 in
    let free = (taken_no b before).1 new in
    let held = held_new b before new in
    let r = apart_then (before ++ (b ∷ [])) bs cs h' in
    let l : length (before ++ (b ∷ [])) ≡ suc (length before) = length-append before (b ∷ []) ∙ omega arith in
    let one_more_lem : triangle (length (before ++ (b ∷ []))) ≡ triangle (length before) + length before = ap triangle l in
    let k : length (before ++ (b ∷ [])) + length bs ≡ length before + suc (length bs) = omega (arith, l) in
    let all = ap triangle k in
    let rest : compared_in ((before ++ (b ∷ [])) ++ bs) cs ≡ compared_in (before ++ (b ∷ bs)) cs = ap (λ (xs : List Bond). compared_in xs cs) one in
    rw (held, free) (omega (arith, r, one_more_lem, all, rest))

module _ (bs : List Bond) (once : NoPairTwice bs) where
  -- k bonds without a repeat, so also an accepted record's
  pub apart : compared_in [] bs ≡ triangle (length bs)
  unfolding compared_in triangle
  apart =
      let h = apart_then [] bs [] once in
      let n : 0 + length bs ≡ length bs = omega arith in
      omega (arith, ap (compared_in []) (append-nil bs), h, ap triangle n)

  -- and one that repeats the pair of bond j first, whatever comes after it
  pub repeats : (b : Bond) (cs : List Bond) (j : ℕ) → FirstSame b bs j → compared_in [] (bs ++ (b ∷ cs)) ≡ triangle (length bs) + j
  unfolding compared_in triangle
  repeats b cs j f =
      let h = apart_then [] bs (b ∷ cs) once in
      let n : 0 + length bs ≡ length bs = omega arith in
      let t : compared_in bs (b ∷ cs) ≡ j = rw (held_first b bs j f, first_taken b bs j f) (omega arith) in
      omega (arith, h, ap triangle n, t)

-- ---- The three closed forms

-- m bonds, no two of the same pair: m(m-1)/2
pub compared_apart : (bs : List Bond) → NoPairTwice bs → 2 * compared_in [] bs ≡ length bs * (length bs - 1)
compared_apart bs once = ap (λ (x : ℕ). 2 * x) (apart bs once) ∙ triangle_twice (length bs)

-- bond k repeats the pair of an earlier one, and bond j is the first of that pair: (k-1)(k-2)/2 + j
pub compared_repeat : (bs : List Bond) → NoPairTwice bs → (b : Bond) (cs : List Bond) (k j : ℕ) → k ≡ suc (length bs) → FirstSame b bs j →
    2 * compared_in [] (bs ++ (b ∷ cs)) ≡ (k - 1) * (k - 2) + 2 * j
compared_repeat bs once b cs k j e f =
    let r = repeats bs once b cs j f in
    let t = triangle_twice (length bs) in
    let one : k - 1 ≡ length bs = omega arith in
    let two : k - 2 ≡ length bs - 1 = omega arith in
    rw (one, two) (omega (arith, r, t))

-- a line is refused for another reason after k bonds: k(k-1)/2
pub compared_other : (n : ℕ) (bs cs : List Bond) (l : Line) → NoPairTwice bs → Asked n bs l cs → ¬ ((b : Bond) × BondLine n l b) → 2 * compared_in [] cs ≡ length bs * (length bs - 1)
compared_other n bs cs l once (its_own {b = b} h) none = absurd (none (b, h))
compared_other n bs cs l once (not_its_own h) none = compared_apart bs once
