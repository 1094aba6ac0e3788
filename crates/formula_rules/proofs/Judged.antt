-- The verdict computed is the verdict of the rules, and there is one.
use Rattle.std.specs.Prelude.{ℕ, zero, suc, ◌+◌, ◌≤◌, ◌<◌, ◌≡◌, refl, List, Bool, true, false, cond, ◌||◌, eqb, ltb, length, get_or}
use Rattle.std.proofs.Common.{arith, sym, ◌∙◌, subst, eqb-true, ltb-true, ltb-false}
use Rattle.std.proofs.Math.Path.{ap}
use Rattle.std.proofs.lemmas.Bool.{eqb-false}
use Rattle.text.specs.Text.{Bytes}
use Rattle.text.specs.Laws.{or_false, true_false}
use Rattle.formula_rules.specs.Formula.{Element, elements, Trees, Formula}
use Rattle.formula_rules.specs.Depth.{TreesIn, deepest}
use Rattle.formula_rules.specs.Total.{count_trees}
use Rattle.formula_rules.specs.Verdict.{most, Few, Verdict, counts, refused, Judged}
use Rattle.formula_rules.specs.Parse.{formula_of}
use Rattle.formula_rules.specs.Complete.{end_text_lem}
use Rattle.formula_rules.proofs.Complete.{one_formula, units_complete, formula_complete, formula_sound, formula_any}
use Rattle.formula_rules.specs.Sums.{sat}
use Rattle.formula_rules.specs.Capped.{sat_small, capped_small}
use Rattle.formula_rules.proofs.Capped.{formula_counts}
use Rattle.formula_rules.specs.Judged.{empty, sums_of, crowded, trees_read, trees_of, shallow_of, verdict_of, counts_of, empty_place, empty_below}

-- ---- It is the verdict of the rules

module _ (s : Bytes) (ts : Trees) (f : Formula s ts) (i : TreesIn ts deepest) where
  sum_at : (k : ℕ) → k ≤ elements → get_or (sums_of s) k 0 ≡ sat (count_trees ts k)
  unfolding sums_of
  sum_at k l = formula_counts s deepest ts empty k f i (omega arith) empty_below ∙ ap sat (omega (arith, empty_place k))

  -- where no number is too large, the table has the formula's own
  pub sum_exact : Few ts → (k : ℕ) → Element k → get_or (sums_of s) k 0 ≡ count_trees ts k
  sum_exact h k e = sum_at k e.high ∙ sym (sat_small (count_trees ts k) (omega (arith, h.each k e)))

  pub trees_are : trees_of s ≡ ts
  unfolding trees_of
  trees_are = ap trees_read (units_complete s f deepest i (end_text_lem s))

  some_above : (k : ℕ) → Element k → most < get_or (sums_of s) k 0 → ¬ Few ts
  some_above k e l h = omega (arith, sum_exact h k e, h.each k e)

  none_above : ((k : ℕ) → 1 ≤ k → k < 1 + elements → get_or (sums_of s) k 0 ≤ most) → Few ts
  none_above h =
      record {
        each = λ k e.
            let l = h k e.low (omega (arith, e.high)) in
            omega (arith, capped_small (count_trees ts k) (omega (arith, sum_at k e.high)), sum_at k e.high);
      }

crowded_none : (t : List ℕ) (i n : ℕ) → crowded t i n ≡ false → (k : ℕ) → i ≤ k → k < i + n → get_or t k 0 ≤ most
unfolding crowded
crowded_none t i zero h k l m = absurd (omega arith)
crowded_none t i (suc n) h k l m =
    let o = or_false (ltb most (get_or t i 0)) (crowded t (i + 1) n) h in
    go (eqb i k) refl o.0 (λ l m. crowded_none t (i + 1) n o.1 k l m)
  where
    go : (b : Bool) → eqb i k ≡ b → ltb most (get_or t i 0) ≡ false → (i + 1 ≤ k → k < i + 1 + n → get_or t k 0 ≤ most) → get_or t k 0 ≤ most
    go true e p q = subst (λ (j : ℕ). get_or t j 0 ≤ most) (eqb-true i k e) (ltb-false most (get_or t i 0) p)
    go false e p q = let f : (i ≡ k → ⊥) = eqb-false i k e in q (omega arith) (omega arith)

record Above (t : List ℕ) (i n : ℕ) : Type 0 where
  k : ℕ
  low : i ≤ k
  high : k < i + n
  above : most < get_or t k 0

crowded_some : (t : List ℕ) (i n : ℕ) → crowded t i n ≡ true → Above t i n
unfolding crowded
crowded_some t i zero h = absurd (let z : ◌≡◌ {A = ℕ} 0 1 = cc in omega arith)
crowded_some t i (suc n) h = go (ltb most (get_or t i 0)) refl (λ q. crowded_some t (i + 1) n q) h
  where
    go : (b : Bool) → ltb most (get_or t i 0) ≡ b → (crowded t (i + 1) n ≡ true → Above t (i + 1) n) → (b || crowded t (i + 1) n) ≡ true → Above t i (suc n)
    go true e f q = record { k = i; low = omega arith; high = omega arith; above = ltb-true most (get_or t i 0) e }
    go false e f q = let a = f q in record { k = a.k; low = omega (arith, a.low); high = omega (arith, a.high); above = a.above }

pub judged : (s : Bytes) → Judged s (verdict_of s)
unfolding verdict_of shallow_of
judged s = go (formula_of s (length s)) refl (formula_of s deepest) refl (crowded (sums_of s) 1 elements) refl
  where
    go : (p : Bool) → formula_of s (length s) ≡ p → (q : Bool) → formula_of s deepest ≡ q → (r : Bool) → crowded (sums_of s) 1 elements ≡ r →
        Judged s (cond p (cond q (cond r (refused 33) (counts (trees_of s))) (refused 32)) (refused 31))
    go false e q f r g = Judged.no_formula (λ ts h. true_false (sym (formula_any s h) ∙ e))
    go true e false f r g = let x = formula_sound s (length s) e in Judged.too_deep x.1.0 (λ i. true_false (sym (formula_complete s x.1.0 deepest i) ∙ f))
    go true e true f true g =
        let x = formula_sound s deepest f in
        let a = crowded_some (sums_of s) 1 elements g in
        Judged.too_many x.1.0 x.1.1 (some_above s x.0 x.1.0 x.1.1 a.k (record { low = a.low; high = omega (arith, a.high) }) a.above)
    go true e true f false g =
        let x = formula_sound s deepest f in
        subst (λ (ts : Trees). Judged s (counts ts)) (sym (trees_are s x.0 x.1.0 x.1.1))
        (Judged.formula x.1.0 x.1.1 (none_above s x.0 x.1.0 x.1.1 (crowded_none (sums_of s) 1 elements g)))

-- what is no formula is none to any depth
pub counts_none : (s : Bytes) → formula_of s (length s) ≡ false → empty ≡ counts_of s
unfolding counts_of
counts_none s h = go (formula_of s deepest) refl
  where
    go : (b : Bool) → formula_of s deepest ≡ b → empty ≡ cond b (sums_of s) empty
    go true e = true_false (sym (formula_any s (formula_sound s deepest e).1.0) ∙ h)
    go false e = refl

-- a line has one verdict
pub one_verdict : {s : Bytes} {v w : Verdict} → Judged s v → Judged s w → v ≡ w
one_verdict {s} (Judged.formula f i h) (Judged.formula g j k) = ap counts (one_formula s f g)
one_verdict (Judged.formula f i h) (Judged.no_formula n) = absurd (n _ f)
one_verdict {s} (Judged.formula f i h) (Judged.too_deep g n) = absurd (n (subst (λ (ts : Trees). TreesIn ts deepest) (one_formula s f g) i))
one_verdict {s} (Judged.formula f i h) (Judged.too_many g j n) = absurd (n (subst Few (one_formula s f g) h))
one_verdict (Judged.no_formula n) (Judged.formula g j k) = absurd (n _ g)
one_verdict (Judged.no_formula n) (Judged.no_formula m) = refl
one_verdict (Judged.no_formula n) (Judged.too_deep g m) = absurd (n _ g)
one_verdict (Judged.no_formula n) (Judged.too_many g j m) = absurd (n _ g)
one_verdict {s} (Judged.too_deep f n) (Judged.formula g j k) = absurd (n (subst (λ (ts : Trees). TreesIn ts deepest) (one_formula s g f) j))
one_verdict (Judged.too_deep f n) (Judged.no_formula m) = absurd (m _ f)
one_verdict (Judged.too_deep f n) (Judged.too_deep g m) = refl
one_verdict {s} (Judged.too_deep f n) (Judged.too_many g j m) = absurd (n (subst (λ (ts : Trees). TreesIn ts deepest) (one_formula s g f) j))
one_verdict {s} (Judged.too_many f i n) (Judged.formula g j k) = absurd (n (subst Few (one_formula s g f) k))
one_verdict (Judged.too_many f i n) (Judged.no_formula m) = absurd (m _ f)
one_verdict {s} (Judged.too_many f i n) (Judged.too_deep g m) = absurd (m (subst (λ (ts : Trees). TreesIn ts deepest) (one_formula s f g) i))
one_verdict (Judged.too_many f i n) (Judged.too_many g j m) = refl
