-- The table's entries are the counts of the formula, multiplied out, each capped at 10,000.
use Rattle.std.specs.Prelude.{ℕ, zero, suc, ◌+◌, ◌*◌, ◌≤◌, ◌<◌, ◌≡◌, refl, List, [], Bool, true, false, cond, eqb, length, get_or, set}
use Rattle.std.proofs.Common.{mul-le-mul, mul_assoc, mul-add, mul-zero, arith, sym, ap, ◌∙◌, length-set, get_or-set_same, get_or-set_other, eqb-true}
use Rattle.std.proofs.lemmas.Bool.{eqb-false}
use Rattle.text.specs.Text.{Bytes}
use Rattle.formula_rules.specs.Formula.{Tree, Trees, atom, group, more, Formula}
use Rattle.formula_rules.specs.Depth.{TreesIn}
use Rattle.formula_rules.specs.Total.{count_tree, count_trees}
use Rattle.formula_rules.specs.Complete.{end_text_lem}
use Rattle.formula_rules.proofs.Complete.{units_complete}
use Rattle.formula_rules.specs.Parse.{UnitRead, unit, units_of}
use Rattle.formula_rules.specs.Sums.{sat, Below, add_tree, add_trees, added_units, added_unit}
use Rattle.formula_rules.specs.Capped.{sat_small, sat_big, sat_le, split_at, below_set}

-- ---- Capped sums and products

full : (a n : ℕ) → 10000 ≤ n → sat (a + n) ≡ 10000
full a n h = split_at (a + n) (λ l. sym (sat_small (a + n) l) ∙ (let z : a + n ≡ 10000 = omega arith in z)) (λ l. sym (sat_big (a + n) l))

sat_sum : (x b : ℕ) → sat (sat x + b) ≡ sat (x + b)
sat_sum x b = split_at x (λ h. ap (λ (y : ℕ). sat (y + b)) (sym (sat_small x h))) (λ h. big h)
  where
    big : 10000 < x → sat (sat x + b) ≡ sat (x + b)
    big h =
        let p : 10000 + b ≡ b + 10000 = omega arith in
        let q : x + b ≡ b + x = omega arith in
        ap (λ (y : ℕ). sat (y + b)) (sym (sat_big x h)) ∙ ap sat p ∙ full b 10000 (omega arith) ∙ sym (ap sat q ∙ full b x (omega arith))

sat_product : (a x y : ℕ) → sat (a + sat x * y) ≡ sat (a + x * y)
sat_product a x y = split_at x (λ h. ap (λ (z : ℕ). sat (a + z * y)) (sym (sat_small x h))) (λ h. ap (λ (z : ℕ). sat (a + z * y)) (sym (sat_big x h)) ∙ big y h)
  where
    big : (y : ℕ) → 10000 < x → sat (a + 10000 * y) ≡ sat (a + x * y)
    big zero h = rw (mul-zero 10000, mul-zero x)
    big (suc y) h =
        let o : 1 ≤ suc y = omega arith in
        let w : 10000 ≤ x = omega arith in
        let l : 10000 * 1 ≤ x * suc y = mul-le-mul w o in
        let k : 10000 * 1 ≤ 10000 * suc y = omega arith in
        full a (10000 * suc y) (omega arith) ∙ sym (full a (x * suc y) (omega arith))

sat_inner : (a x : ℕ) → sat (a + sat x) ≡ sat (a + x)
sat_inner a x = let e : a + sat x ≡ sat x + a = omega arith in let f : x + a ≡ a + x = omega arith in ap sat e ∙ sat_sum x a ∙ ap sat f

-- ---- The table stays capped and keeps its length

mutual
  unfolding add_tree

  below_tree : (x : Tree) (m : ℕ) (t : List ℕ) → Below t → Below (add_tree m x t)
  below_tree (atom k c) m t h = below_set t k _ h (sat_le (get_or t k 0 + sat (m * c)))
  below_tree (group ts c) m t h = below_trees ts (sat (m * c)) t h

  below_trees : (ts : Trees) (m : ℕ) (t : List ℕ) → Below t → Below (add_trees m ts t)
  below_trees Trees.none m t h = h
  below_trees (more x ts) m t h = below_trees ts m (add_tree m x t) (below_tree x m t h)

pub below_unit : (m : ℕ) (x : UnitRead) (t u : List ℕ) → Below t → u ≡ added_unit m x t → Below u
unfolding added_unit
below_unit m (unit e x) t u h q = rw q (below_tree x m t h)
below_unit m UnitRead.no t u h q = rw q h

mutual
  unfolding add_tree

  tree_length : (x : Tree) (m : ℕ) (t : List ℕ) → length (add_tree m x t) ≡ length t
  tree_length (atom k c) m t = length-set t k _
  tree_length (group ts c) m t = trees_length ts (sat (m * c)) t

  trees_length : (ts : Trees) (m : ℕ) (t : List ℕ) → length (add_trees m ts t) ≡ length t
  trees_length Trees.none m t = refl
  trees_length (more x ts) m t = trees_length ts m (add_tree m x t) ∙ tree_length x m t

-- ---- The entries

atom_entry : (k c m j : ℕ) (t : List ℕ) → j < length t → Below t → get_or (set t k (sat (get_or t k 0 + sat (m * c)))) j 0 ≡ sat (get_or t j 0 + m * cond (eqb k j) c 0)
unfolding Below
atom_entry k c m j t i b = go (eqb k j) refl
  where
    go : (p : Bool) → eqb k j ≡ p → get_or (set t k (sat (get_or t k 0 + sat (m * c)))) j 0 ≡ sat (get_or t j 0 + m * cond p c 0)
    go true e = rw (eqb-true k j e, get_or-set_same t j (sat (get_or t j 0 + sat (m * c))) 0 i) (sat_inner (get_or t j 0) (m * c))
    go false e =
        let n : (k ≡ j → ⊥) = eqb-false k j e in
        let z : get_or t j 0 ≡ get_or t j 0 + m * 0 = rw (mul-zero m) (omega arith) in
        get_or-set_other t k j _ 0 (λ q. n (sym q)) ∙ sat_small (get_or t j 0) (b j) ∙ ap sat z

none_entry : (m j : ℕ) (t : List ℕ) → Below t → get_or t j 0 ≡ sat (get_or t j 0 + m * 0)
unfolding Below
none_entry m j t b = let z : get_or t j 0 ≡ get_or t j 0 + m * 0 = rw (mul-zero m) (omega arith) in sat_small (get_or t j 0) (b j) ∙ ap sat z

more_entry : (a m x y : ℕ) → a + m * x + m * y ≡ a + m * (x + y)
more_entry a m x y = let e : m * (x + y) ≡ m * x + m * y = mul-add m x y in omega (arith, e)

mutual
  unfolding add_tree count_tree

  tree_entry : (x : Tree) (m j : ℕ) (t : List ℕ) → j < length t → Below t → get_or (add_tree m x t) j 0 ≡ sat (get_or t j 0 + m * count_tree x j)
  tree_entry (atom k c) m j t i b = atom_entry k c m j t i b
  tree_entry (group ts c) m j t i b =
      trees_entry ts (sat (m * c)) j t i b ∙ sat_product (get_or t j 0) (m * c) (count_trees ts j) ∙ ap (λ (z : ℕ). sat (get_or t j 0 + z)) (mul_assoc m c (count_trees ts j))

  pub trees_entry : (ts : Trees) (m j : ℕ) (t : List ℕ) → j < length t → Below t → get_or (add_trees m ts t) j 0 ≡ sat (get_or t j 0 + m * count_trees ts j)
  trees_entry Trees.none m j t i b = none_entry m j t b
  trees_entry (more x ts) m j t i b =
      let i' : j < length (add_tree m x t) = omega (arith, tree_length x m t) in
      trees_entry ts m j (add_tree m x t) i' (below_tree x m t b)
      ∙ ap (λ (z : ℕ). sat (z + m * count_trees ts j)) (tree_entry x m j t i b)
      ∙ sat_sum (get_or t j 0 + m * count_tree x j) (m * count_trees ts j)
      ∙ ap sat (more_entry (get_or t j 0) m (count_tree x j) (count_trees ts j))

-- the table after a formula: what was there and the formula's counts, capped
pub formula_counts : (s : Bytes) (d : ℕ) (ts : Trees) (t : List ℕ) (j : ℕ) → Formula s ts → TreesIn ts d → j < length t → Below t →
    get_or (added_units 1 (units_of s d 0) t) j 0 ≡ sat (get_or t j 0 + count_trees ts j)
unfolding added_units
formula_counts s d ts t j f i l b =
    let e = units_complete s f d i (end_text_lem s) in
    let n : 1 * count_trees ts j ≡ count_trees ts j = omega arith in
    rw (e, trees_entry ts 1 j t l b, n)
