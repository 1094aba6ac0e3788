-- One number of a row, as the code finds it.
use Prim.Native.Nat.{ℕ, zero, suc, ◌+◌, ◌-◌, ◌≤◌, ◌<◌}
use native.Mathlib.Omega.{arith}
use mathlib.Core.Path.{◌≡◌, refl, sym, ap, ◌∙◌}
use mathlib.Core.List.{List}
use mathlib.Core.Bool.{Bool, true, false, cond, not, ◌||◌}
use native.Mathlib.Numerals.{add-one}
use lib.Dec.{eqb}
use lib.ListN.{length, get_or, take, drop, length-drop}
use lib.Seq.{get_or-drop}
use Rattle.std.specs.List.{list_any}
use Rattle.std.proofs.lemmas.List.Folds.{list_any_more}
use lib.IntN.{ℤ, pos, negsuc}
use mir.Val.{SFits, to_z, of_z}
use mir.Syntax.{w32}
use mir.Facts.{to_z_pos}
use borrow.Author.Tests.{ne_eqb, le-leb, lt-leb}
use Rattle.field_numbers.specs.Read.{signed}
use Rattle.rules.specs.Meaning.{charge_of_code, radical_of_code}
use Rattle.line_fields.specs.Steps.{hop}
use Rattle.reader_tables.specs.Mean.{any_after, number_kept, charge_by, radical_by, mass_by, code_in}
use Rattle.reader_tables.specs.declared.Superseded.{Superseded}

-- ---- some place is in use

-- a part of the table, asked for a place in use
pub any_part : (t : List ℕ) (from n : ℕ) → from + n < length t → list_any (λ k. not (eqb k 0)) (take n (drop (from + 1) t)) ≡ any_after from t n
unfolding any_after
any_part t from zero h = refl
any_part t from (suc n) h =
    let d = drop (from + 1) t in
    let l : n < length d = omega (arith, length-drop (from + 1) t) in
    let e : from + 1 + n ≡ from + suc n = omega arith in
    ap (λ (k : ℕ). list_any (λ k. not (eqb k 0)) (take k d)) (sym (add-one n))
    ∙ list_any_more (λ k. not (eqb k 0)) d n 0 l
    ∙ rw (any_part t from n (omega arith), get_or-drop (from + 1) t n 0, e) (used (eqb (get_or t (from + suc n) 0) 0) (any_after from t n))
  where
    used : (x y : Bool) → (y || not x) ≡ cond x y true
    used true true = refl
    used true false = refl
    used false true = refl
    used false false = refl

-- ---- a kept number

module _ (k : ℕ) where
  pub kept_none : k ≡ 0 → pos 0 ≡ number_kept k
  kept_none h = rw h

  pub kept_plain : (r : ℤ) → (k ≡ 0 → ⊥) → 16 ≤ k → SFits w32 r → r ≡ signed false (k - 16) → to_z w32 (of_z w32 r) ≡ number_kept k
  kept_plain r h i f e = hop r f ∙ rw (ne_eqb k 0 h, le-leb 16 k i) e

  pub kept_minus : (r : ℤ) → (k ≡ 0 → ⊥) → k < 16 → SFits w32 r → r ≡ signed true (16 - k) → to_z w32 (of_z w32 r) ≡ number_kept k
  kept_minus r h i f e = hop r f ∙ rw (ne_eqb k 0 h, lt-leb 16 k i) e

pub ruleset keeping = (kept_none, kept_plain, kept_minus)

-- ---- codes

code_is : (z : ℤ) (k : ℕ) → SFits w32 z → of_z w32 z ≡ k → k < 8 → z ≡ pos k
code_is z k f e h = sym (hop z f) ∙ ap (to_z w32) e ∙ to_z_pos w32 {n = k} (omega arith)

module _ (over : Superseded) (z n : ℤ) where
  pub charge_listed : (r : ℤ) → over.codes ≡ true → SFits w32 r → r ≡ n → to_z w32 (of_z w32 r) ≡ charge_by over (code_in z) n
  charge_listed r h f e = hop r f ∙ rw h e

  pub charge_coded : (k : ℕ) (r : ℤ) → over.codes ≡ false → SFits w32 z → of_z w32 z ≡ k → k < 8 → r ≡ charge_of_code k → r ≡ charge_by over (code_in z) n
  charge_coded k r h f e i q = rw (h, code_is z k f e i) q

  pub charge_none : over.codes ≡ false → (of_z w32 z ≡ 1 → ⊥) → (of_z w32 z ≡ 2 → ⊥) → (of_z w32 z ≡ 3 → ⊥) → (of_z w32 z ≡ 5 → ⊥) → (of_z w32 z ≡ 6 → ⊥) → (of_z w32 z ≡ 7 → ⊥) →
      pos 0 ≡ charge_by over (code_in z) n
  charge_none h a b c d e f = rw h (go z a b c d e f)
    where
      go : (z : ℤ) → (of_z w32 z ≡ 1 → ⊥) → (of_z w32 z ≡ 2 → ⊥) → (of_z w32 z ≡ 3 → ⊥) → (of_z w32 z ≡ 5 → ⊥) → (of_z w32 z ≡ 6 → ⊥) → (of_z w32 z ≡ 7 → ⊥) → pos 0 ≡ charge_of_code (code_in z)
      go (negsuc k) a b c d e f = refl
      go (pos zero) a b c d e f = refl
      go (pos (suc zero)) a b c d e f = absurd (a refl)
      go (pos (suc (suc zero))) a b c d e f = absurd (b refl)
      go (pos (suc (suc (suc zero)))) a b c d e f = absurd (c refl)
      go (pos (suc (suc (suc (suc zero))))) a b c d e f = refl
      go (pos (suc (suc (suc (suc (suc zero)))))) a b c d e f = absurd (d refl)
      go (pos (suc (suc (suc (suc (suc (suc zero))))))) a b c d e f = absurd (e refl)
      go (pos (suc (suc (suc (suc (suc (suc (suc zero)))))))) a b c d e f = absurd (f refl)
      go (pos (suc (suc (suc (suc (suc (suc (suc (suc k))))))))) a b c d e f = refl

  pub radical_listed : (r : ℤ) → over.codes ≡ true → SFits w32 r → r ≡ n → to_z w32 (of_z w32 r) ≡ radical_by over (code_in z) n
  radical_listed r h f e = hop r f ∙ rw h e

  pub radical_coded : over.codes ≡ false → SFits w32 z → of_z w32 z ≡ 4 → pos 2 ≡ radical_by over (code_in z) n
  radical_coded h f e = rw (h, code_is z 4 f e (omega arith))

  pub radical_none : over.codes ≡ false → (of_z w32 z ≡ 4 → ⊥) → pos 0 ≡ radical_by over (code_in z) n
  radical_none h a = rw h (go z a)
    where
      go : (z : ℤ) → (of_z w32 z ≡ 4 → ⊥) → pos 0 ≡ radical_of_code (code_in z)
      go (negsuc k) a = refl
      go (pos k) a = rw (ne_eqb k 4 (λ (q : k ≡ 4). a q))

  pub mass_none : over.masses ≡ true → pos 0 ≡ mass_by over z
  mass_none h = rw h

  pub mass_kept : over.masses ≡ false → SFits w32 z → to_z w32 (of_z w32 z) ≡ mass_by over z
  mass_kept h f = rw h (hop z f)

pub ruleset meaning = (charge_listed, charge_coded, charge_none, radical_listed, radical_coded, radical_none, mass_none, mass_kept)
