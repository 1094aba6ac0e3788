-- The lists of a bond line, asked one number after the other.
use Rattle.std.specs.Prelude.{ℕ, zero, suc, ◌-◌, ◌*◌, ◌≤◌, ◌<◌, ◌≡◌, refl, Bool, cond, eqb, leb, ℤ, pos, negsuc, ◌+ℤ◌}
use Rattle.std.proofs.Common.{arith, ap, ◌∙◌, SFits, to_z, of_z}
use mathlib.Core.List.{List, [], ◌∷◌, map}
use Rattle.std.proofs.Math.Bool.{true, false}
use Rattle.std.specs.Int.{w32}
use borrow.Author.Tests.{eq-eqb, ne_eqb, eqb-true, eqb-false, lt-leb}
use Rattle.field_numbers.specs.Number.{Between}
use Rattle.rules.specs.Forms.{stereos, centres}
use Rattle.judge_line.specs.Field.{elem, elem_signed}
use Rattle.line_counts_bonds.specs.Answer.{next_centres}
use Rattle.line_fields.specs.Steps.{hop}

pub elem_here : (k x : ℕ) (xs : List ℕ) → k ≡ x → true ≡ elem k (x ∷ xs)
unfolding elem
elem_here k x xs h = rw (eq-eqb k x h)

pub elem_on : (k x : ℕ) (xs : List ℕ) (b : Bool) → (k ≡ x → ⊥) → b ≡ elem k xs → b ≡ elem k (x ∷ xs)
unfolding elem
elem_on k x xs b h e = rw (ne_eqb k x h) e

pub elem_last : (k x : ℕ) → eqb k x ≡ elem k (x ∷ [])
unfolding elem
elem_last k x = go (eqb k x)
  where
    go : (t : Bool) → t ≡ cond t true false
    go true = refl
    go false = refl

pub ruleset one_by_one = (elem_here, elem_on, elem_last)

module _ (order stereo : ℕ) where
  pub single_bond : (b : Bool) → order ≡ 1 → b ≡ elem stereo (stereos 1) → b ≡ elem stereo (stereos order)
  single_bond b o e = rw o e

  pub no_stereo : stereo ≡ 0 → true ≡ elem stereo (stereos order)
  unfolding elem
  no_stereo h = go (eqb order 1) (eqb order 2)
    where
      go : (s t : Bool) → true ≡ elem stereo (cond s (0 ∷ 1 ∷ 4 ∷ 6 ∷ []) (cond t (0 ∷ 3 ∷ []) (0 ∷ [])))
      go true t = elem_here stereo 0 (1 ∷ 4 ∷ 6 ∷ []) h
      go false true = elem_here stereo 0 (3 ∷ []) h
      go false false = elem_here stereo 0 [] h

  pub double_bond : order ≡ 2 → (stereo ≡ 0 → ⊥) → eqb stereo 3 ≡ elem stereo (stereos order)
  double_bond o h = rw o (elem_on stereo 0 (3 ∷ []) (eqb stereo 3) h (elem_last stereo 3))

  pub other_bond : (order ≡ 1 → ⊥) → (order ≡ 2 → ⊥) → (stereo ≡ 0 → ⊥) → false ≡ elem stereo (stereos order)
  unfolding elem
  other_bond o p h = rw (ne_eqb order 1 o, ne_eqb order 2 p, ne_eqb stereo 0 h)

pub ruleset bond_stereo = (single_bond, no_stereo, double_bond, other_bond)

-- 0 to 3 are of the list
pub small_next : (k : ℕ) → k ≤ 3 → true ≡ elem k next_centres
unfolding elem
small_next zero h = refl
small_next (suc zero) h = refl
small_next (suc (suc zero)) h = refl
small_next (suc (suc (suc zero))) h = refl
small_next (suc (suc (suc (suc k)))) h = absurd (omega arith)

pub next_on_lem : (k : ℕ) (b : Bool) → 3 < k → b ≡ elem k (5 ∷ 6 ∷ 9 ∷ 10 ∷ 13 ∷ 14 ∷ []) → b ≡ elem k next_centres
next_on_lem k b h e =
    elem_on k 0 _ b (λ q. omega arith) (elem_on k 1 _ b (λ q. omega arith) (elem_on k 2 _ b (λ q. omega arith) (elem_on k 3 _ b (λ q. omega arith) e)))

-- enough pairs
pub no_atoms_lem : (n m : ℕ) → n ≡ 0 → eqb m 0 ≡ leb (2 * m) (n * (n - 1))
no_atoms_lem n m h = go m
  where
    z : n * (n - 1) ≡ 0
    z = rw h

    go : (k : ℕ) → eqb k 0 ≡ leb (2 * k) (n * (n - 1))
    go zero = rw z
    go (suc k) = rw (z, ne_eqb (suc k) 0 (λ (q : suc k ≡ 0). omega arith), lt-leb (2 * suc k) 0 (omega arith))

-- a centre of the range, and the number after it
abbrev pub next_of : ℤ → ℕ
next_of (pos k) = suc k
next_of (negsuc k) = 0

same_list : (k : ℕ) (xs : List ℕ) → elem (suc k) (map suc xs) ≡ elem_signed (pos k) (map pos xs)
unfolding elem elem_signed
same_list k [] = refl
same_list k (x ∷ xs) = go (eqb k x) refl (same_list k xs)
  where
    next_same : (t : Bool) → eqb k x ≡ t → eqb (suc k) (suc x) ≡ t
    next_same true e = eq-eqb (suc k) (suc x) (ap suc (eqb-true k x e))
    next_same false e = ne_eqb (suc k) (suc x) (λ q. eqb-false k x e (omega arith))

    go : (t : Bool) → eqb k x ≡ t → elem (suc k) (map suc xs) ≡ elem_signed (pos k) (map pos xs) → cond (eqb (suc k) (suc x)) true (elem (suc k) (map suc xs)) ≡ cond (eqb k x) true (elem_signed (pos k) (map pos xs))
    go t e r = rw (next_same t e, e) (ap (λ (b : Bool). cond t true b) r)

pub centre_next : (z : ℤ) → Between 1 13 z → elem (next_of z) next_centres ≡ elem_signed z centres
unfolding elem elem_signed
centre_next (negsuc zero) h = refl
centre_next (negsuc (suc k)) h = absurd (omega arith)
centre_next (pos k) h = rw (ne_eqb (suc k) 0 (λ (q : suc k ≡ 0). omega arith)) (same_list k (0 ∷ 1 ∷ 2 ∷ 4 ∷ 5 ∷ 8 ∷ 9 ∷ 12 ∷ 13 ∷ []))

-- the number after it, as an i32 gives it
pub next_fits : (z : ℤ) → Between 1 13 z → SFits w32 z → SFits w32 (to_z w32 (of_z w32 z) +ℤ pos 1)
next_fits z h f = rw (hop z f) (go z h)
  where
    go : (z : ℤ) → Between 1 13 z → SFits w32 (z +ℤ pos 1)
    go (pos k) h = record { sfits = omega arith }
    go (negsuc zero) h = record { sfits = omega arith }
    go (negsuc (suc k)) h = absurd (omega arith)

pub next_number : (z : ℤ) → Between 1 13 z → SFits w32 z → to_z w32 (of_z w32 (to_z w32 (of_z w32 z) +ℤ pos 1)) ≡ pos (next_of z)
next_number z h f = hop (to_z w32 (of_z w32 z) +ℤ pos 1) (next_fits z h f) ∙ ap (λ (y : ℤ). y +ℤ pos 1) (hop z f) ∙ go z h
  where
    go : (z : ℤ) → Between 1 13 z → z +ℤ pos 1 ≡ pos (next_of z)
    go (pos k) h = ap pos (omega arith)
    go (negsuc zero) h = refl
    go (negsuc (suc k)) h = absurd (omega arith)

pub next_small : (z : ℤ) → Between 1 13 z → next_of z ≤ 14
next_small (pos k) h = omega arith
next_small (negsuc k) h = omega arith
