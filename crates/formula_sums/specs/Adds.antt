-- The sums in the facts that the code has.
use Prim.Native.Nat.{ℕ, zero, suc, ◌+◌, ◌*◌, ◌-◌, ◌≤◌, ◌<◌}
use Rattle.std.specs.Prelude.{Option, Some, None, ◌≡◌, refl, Bool, cond, ◌&&◌, eqb, ltb, length, get_or, set, take, drop}
use Rattle.std.proofs.Math.Path.{sym, ap}
use Rattle.std.proofs.Common.{◌∙◌, subst, add-one, drop-cons, mul-le-mul, Fits, eqb-true, lt-ltb, le-ltb}
use Rattle.std.specs.List.{list_any}
use mathlib.Core.List.{List, []}
use Rattle.std.proofs.Math.Bool.{true, false, and-eq-true_iff}
use native.Mathlib.Omega.{arith}
use Rattle.std.specs.Int.{w32}
use Rattle.formula_rules.specs.Formula.{byte_at, between, is_digit, Tree, Trees, group}
use Rattle.formula_rules.specs.Element.{element_of, element_le}
use Rattle.formula_rules.specs.Parse.{CountRead, count, UnitRead, unit, UnitsRead, units, counted, count_at, symbol_end, element_at, element_unit, symbol_at, closed, onto, after, units_of, group_of, whole_of, formula_of}
use Rattle.formula_rules.specs.Bytes.{between_from, inside}
use Rattle.formula_rules.specs.Ends.{CountView, count_view}
use Rattle.formula_rules.specs.Fuel.{group_none}
use Rattle.formula_rules.specs.Sums.{sat, Below, add_tree, read_units, read_unit, added_units, added_unit}
use Rattle.formula_rules.specs.Capped.{sat_small, sat_big}
use Rattle.formula_rules.specs.Judged.{empty, empty_below, crowded, sums_of, verdict_of, shallow_of, counts_of, number_of}
use Rattle.formula_rules.proofs.Judged.{counts_none}
use Rattle.formula_text.specs.Steps.{units_open, units_symbol, units_none, group_step}
use Rattle.formula_text.specs.Told.{told_unit, told_units}
use Rattle.formula_sums.specs.Values.{count_value, symbol_count}

-- ---- numbers

pub mul_fits : (t c : ℕ) → t ≤ 10000 → c ≤ 999 → Fits w32 (t * c)
mul_fits t c h i = let l : t * c ≤ 10000 * 999 = mul-le-mul h i in omega arith

-- ---- counts

module _ (s : List ℕ) (a : ℕ) {x : ℕ} (ex : x ≡ byte_at s a) where
  pub value_none : {p : Bool} → p ≡ between 48 57 x → p ≡ false → 1 ≡ count_value s a
  unfolding count_value
  value_none ep tp = let e : between 48 57 (byte_at s a) ≡ false = cc in rw e

  module _ {p : Bool} (ep : p ≡ between 48 57 x) (tp : p ≡ true) where
    pub as_digit : (48 ≤ x) × (x ≤ 57)
    as_digit = between_from 48 57 x (sym ep ∙ tp)

    module _ {y : ℕ} (ey : y ≡ byte_at s (a + 1)) {q : Bool} (eq : q ≡ between 48 57 y) where
      pub value_one : q ≡ false → {d : ℕ} → d ≡ x - 48 → d ≡ count_value s a
      unfolding count_value
      value_one tq ed =
          let e : between 48 57 (byte_at s a) ≡ true = cc in
          let f : between 48 57 (byte_at s (a + 1)) ≡ false = cc in
          rw (e, f, ed, ex)

      module _ (tq : q ≡ true) {z : ℕ} (ez : z ≡ byte_at s (a + 2)) {r : Bool} (er : r ≡ between 48 57 z) where
        pub value_two : r ≡ false → {d : ℕ} → d ≡ x - 48 → {g : ℕ} → g ≡ y - 48 → 10 * d + g ≡ count_value s a
        unfolding count_value
        value_two tr ed eg =
            let e : between 48 57 (byte_at s a) ≡ true = cc in
            let f : between 48 57 (byte_at s (a + 1)) ≡ true = cc in
            let h : between 48 57 (byte_at s (a + 2)) ≡ false = cc in
            rw (e, f, h, ed, eg, ex, ey)

        pub value_three : r ≡ true → {d : ℕ} → d ≡ x - 48 → {g : ℕ} → g ≡ y - 48 → {i : ℕ} → i ≡ z - 48 → 100 * d + 10 * g + i ≡ count_value s a
        unfolding count_value
        value_three tr ed eg ei =
            let e : between 48 57 (byte_at s a) ≡ true = cc in
            let f : between 48 57 (byte_at s (a + 1)) ≡ true = cc in
            let h : between 48 57 (byte_at s (a + 2)) ≡ true = cc in
            rw (e, f, h, ed, eg, ei, ex, ey, ez)

-- at most 999
pub value_le : (s : List ℕ) (a : ℕ) → count_value s a ≤ 999
unfolding count_value
value_le s a = go (is_digit (byte_at s a)) refl (is_digit (byte_at s (a + 1))) refl (is_digit (byte_at s (a + 2))) refl
  where
    go : (p : Bool) → is_digit (byte_at s a) ≡ p → (q : Bool) → is_digit (byte_at s (a + 1)) ≡ q → (r : Bool) → is_digit (byte_at s (a + 2)) ≡ r →
        cond p (cond q (cond r (100 * (byte_at s a - 48) + 10 * (byte_at s (a + 1) - 48) + (byte_at s (a + 2) - 48)) (10 * (byte_at s a - 48) + (byte_at s (a + 1) - 48))) (byte_at s a - 48)) 1 ≤ 999
    go false e q f r g = omega arith
    go true e false f r g = omega (arith, between_from 48 57 (byte_at s a) e)
    go true e true f false g = omega (arith, between_from 48 57 (byte_at s a) e, between_from 48 57 (byte_at s (a + 1)) f)
    go true e true f true g = omega (arith, between_from 48 57 (byte_at s a) e, between_from 48 57 (byte_at s (a + 1)) f, between_from 48 57 (byte_at s (a + 2)) g)

pub symbol_le : (s : List ℕ) (a : ℕ) → symbol_count s a ≤ 999
unfolding symbol_count
symbol_le s a = value_le s (symbol_end s a)

-- a count that is read is its value
count_value_lem : (s : List ℕ) (a e c : ℕ) → count_at s a ≡ count e c → count_value s a ≡ c
unfolding count_value
count_value_lem s a e c h = go (count_view s a) h
  where
    go : {r : CountRead} → CountView s a r → r ≡ count e c → count_value s a ≡ c
    go (CountView.none p) q = let x : 1 ≡ c = cc in rw p x
    go (CountView.lone_zero p z) q = absurd (let z : ◌≡◌ {A = ℕ} 0 1 = cc in omega arith)
    go (CountView.lone_one p z o) q = absurd (let z : ◌≡◌ {A = ℕ} 0 1 = cc in omega arith)
    go (CountView.one p z o n) q = let x : byte_at s a - 48 ≡ c = cc in rw (p, n) x
    go (CountView.two p z n o) q = let x : 10 * (byte_at s a - 48) + (byte_at s (a + 1) - 48) ≡ c = cc in rw (p, n, o) x
    go (CountView.three p z n o i) q = let x : 100 * (byte_at s a - 48) + 10 * (byte_at s (a + 1) - 48) + (byte_at s (a + 2) - 48) ≡ c = cc in rw (p, n, o) x
    go (CountView.four p z n o) q = absurd (let z : ◌≡◌ {A = ℕ} 0 1 = cc in omega arith)

pub symbol_value : (s : List ℕ) (a : ℕ) {e : ℕ} → e ≡ symbol_end s a → {r : ℕ} → r ≡ count_value s e → r ≡ symbol_count s a
unfolding symbol_count
symbol_value s a ee er = er ∙ ap (count_value s) ee

pub place_small : (s : List ℕ) (a : ℕ) → element_at s a ≤ 118
unfolding element_at
place_small s a = go (between 97 122 (byte_at s (a + 1)))
  where
    go : (t : Bool) → cond t (element_of (byte_at s a) (byte_at s (a + 1))) (element_of (byte_at s a) 32) ≤ 118
    go true = element_le (byte_at s a) (byte_at s (a + 1))
    go false = element_le (byte_at s a) 32

-- ---- units after one another

onto_read : (t : Tree) (r : UnitsRead) → read_units (onto t r) ≡ true → read_units r ≡ true
onto_read t (units e ts) h = h
onto_read t UnitsRead.no h = h

after_read : (x : UnitRead) (k : ℕ → UnitsRead) → read_units (after x k) ≡ true → read_unit x ≡ true
after_read (unit n t) k h = refl
after_read UnitRead.no k h = h

after_more : (x : UnitRead) (k : ℕ → UnitsRead) (n : ℕ) → told_unit x ≡ Some n → read_units (after x k) ≡ true → read_units (k n) ≡ true
unfolding told_unit
after_more (unit i t) k n e h = let q : i ≡ n = cc in subst (λ (j : ℕ). read_units (k j) ≡ true) q (onto_read t (k i) h)
after_more UnitRead.no k n e h = absurd (let z : ◌≡◌ {A = ℕ} 0 1 = cc in omega arith)

onto_added : (m : ℕ) (x : Tree) (r : UnitsRead) (t : List ℕ) → read_units r ≡ true → added_units m (onto x r) t ≡ added_units m r (add_tree m x t)
unfolding added_units add_tree
onto_added m x (units e ts) t h = refl
onto_added m x UnitsRead.no t h = absurd (let z : ◌≡◌ {A = ℕ} 0 1 = cc in omega arith)

after_added : (m : ℕ) (x : UnitRead) (k : ℕ → UnitsRead) (n : ℕ) (t : List ℕ) → told_unit x ≡ Some n → read_units (after x k) ≡ true →
    added_units m (after x k) t ≡ added_units m (k n) (added_unit m x t)
unfolding told_unit added_unit
after_added m (unit i x) k n t e h = let q : i ≡ n = cc in onto_added m x (k i) t (onto_read x (k i) h) ∙ ap (λ (j : ℕ). added_units m (k j) (add_tree m x t)) q
after_added m UnitRead.no k n t e h = absurd (let z : ◌≡◌ {A = ℕ} 0 1 = cc in omega arith)

never_bad : {X : Type 0} (x : UnitRead) → told_unit x ≡ None → read_unit x ≡ true → X
unfolding told_unit
never_bad (unit i t) e h = absurd (let z : ◌≡◌ {A = ℕ} 0 1 = cc in omega arith)
never_bad UnitRead.no e h = absurd (let z : ◌≡◌ {A = ℕ} 0 1 = cc in omega arith)

counted_added : (s : List ℕ) (k m a : ℕ) (t : List ℕ) (r : CountRead) → count_at s a ≡ r → read_unit (element_unit k r) ≡ true →
    added_unit m (element_unit k r) t ≡ set t k (sat (get_or t k 0 + sat (m * count_value s a)))
unfolding added_unit add_tree
counted_added s zero m a t r q h = absurd (let z : ◌≡◌ {A = ℕ} 0 1 = cc in omega arith)
counted_added s (suc k) m a t (count e c) q h = rw (count_value_lem s a e c q)
counted_added s (suc k) m a t CountRead.no q h = absurd (let z : ◌≡◌ {A = ℕ} 0 1 = cc in omega arith)

one_symbol : (s : List ℕ) (a m : ℕ) (t : List ℕ) → read_unit (symbol_at s a) ≡ true →
    added_unit m (symbol_at s a) t ≡ set t (element_at s a) (sat (get_or t (element_at s a) 0 + sat (m * symbol_count s a)))
unfolding symbol_at symbol_count
one_symbol s a m t h = counted_added s (element_at s a) m (symbol_end s a) t (count_at s (symbol_end s a)) refl h

module _ (s : List ℕ) (d a : ℕ) (w : a ≤ length s) (read : read_units (units_of s d a) ≡ true) {b : ℕ} (eb : b ≡ byte_at s a) where
  module _ (o : b ≡ 40) {g : Option ℕ} (eg : g ≡ told_unit (group_of s d (a + 1))) where
    open_read : read_units (after (group_of s d (a + 1)) (units_of s d)) ≡ true
    open_read = rw (sym (units_open s d a w eb o)) read

    pub group_read : read_unit (group_of s d (a + 1)) ≡ true
    group_read = after_read (group_of s d (a + 1)) (units_of s d) open_read

    pub open_never : {X : Type 0} → g ≡ None → X
    open_never h = never_bad (group_of s d (a + 1)) (sym eg ∙ h) group_read

    pub open_more : (n : ℕ) → g ≡ Some n → read_units (units_of s d n) ≡ true
    open_more n h = after_more (group_of s d (a + 1)) (units_of s d) n (sym eg ∙ h) open_read

    pub open_added : (n : ℕ) → g ≡ Some n → (m : ℕ) (t u v : List ℕ) → u ≡ added_unit m (group_of s d (a + 1)) t → v ≡ added_units m (units_of s d n) u →
        v ≡ added_units m (units_of s d a) t
    open_added n h m t u v eu ev =
        ev ∙ ap (added_units m (units_of s d n)) eu ∙ sym (ap (λ (r : UnitsRead). added_units m r t) (units_open s d a w eb o) ∙ after_added m (group_of s d (a + 1)) (units_of s d) n t (sym eg ∙ h) open_read)

  module _ (o : b ≡ 40 → ⊥) {p : Bool} (ep : p ≡ between 65 90 b) where
    pub none_added : p ≡ false → (m : ℕ) (t : List ℕ) → t ≡ added_units m (units_of s d a) t
    unfolding added_units add_tree
    none_added tp m t = sym (ap (λ (r : UnitsRead). added_units m r t) (units_none s d a w eb o ep tp))

    module _ (tp : p ≡ true) {g : Option ℕ} (eg : g ≡ told_unit (symbol_at s a)) where
      symbol_read : read_units (after (symbol_at s a) (units_of s d)) ≡ true
      symbol_read = rw (sym (units_symbol s d a w eb o ep tp)) read

      pub symbol_never : {X : Type 0} → g ≡ None → X
      symbol_never h = never_bad (symbol_at s a) (sym eg ∙ h) (after_read (symbol_at s a) (units_of s d) symbol_read)

      pub symbol_more : (n : ℕ) → g ≡ Some n → read_units (units_of s d n) ≡ true
      symbol_more n h = after_more (symbol_at s a) (units_of s d) n (sym eg ∙ h) symbol_read

      pub symbol_added : (n : ℕ) → g ≡ Some n → (m : ℕ) (t u v : List ℕ) → u ≡ set t (element_at s a) (sat (get_or t (element_at s a) 0 + sat (m * symbol_count s a))) →
          v ≡ added_units m (units_of s d n) u → v ≡ added_units m (units_of s d a) t
      symbol_added n h m t u v eu ev =
          ev ∙ ap (added_units m (units_of s d n)) (eu ∙ sym (one_symbol s a m t (after_read (symbol_at s a) (units_of s d) symbol_read)))
          ∙ sym (ap (λ (r : UnitsRead). added_units m r t) (units_symbol s d a w eb o ep tp) ∙ after_added m (symbol_at s a) (units_of s d) n t (sym eg ∙ h) symbol_read)

-- ---- a group

group_value : (s : List ℕ) (m i f c : ℕ) (ts : Trees) (t : List ℕ) → count_at s (i + 1) ≡ count f c →
    added_unit m (unit f (group ts c)) t ≡ added_units (sat (m * count_value s (i + 1))) (units i ts) t
unfolding added_unit added_units add_tree
group_value s m i f c ts t q = rw (count_value_lem s (i + 1) f c q)

closed_by : (s : List ℕ) (a e m : ℕ) (x : UnitsRead) (t : List ℕ) → told_units x ≡ Some e → read_unit (closed s a x) ≡ true →
    (e < length s) × (added_unit m (closed s a x) t ≡ added_units (sat (m * count_value s (e + 1))) x t)
unfolding told_units
closed_by s a e m (units i ts) t h r =
    let q : i ≡ e = cc in
    subst (λ (e : ℕ). (e < length s) × (added_unit m (closed s a (units i ts)) t ≡ added_units (sat (m * count_value s (e + 1))) (units i ts) t)) q
    (go (ltb a i && eqb (byte_at s i) 41) refl r)
  where
    value : (c : CountRead) → count_at s (i + 1) ≡ c → read_unit (counted (group ts) c) ≡ true →
        added_unit m (counted (group ts) c) t ≡ added_units (sat (m * count_value s (i + 1))) (units i ts) t
    value (count f c) q h = group_value s m i f c ts t q
    value CountRead.no q h = absurd (let z : ◌≡◌ {A = ℕ} 0 1 = cc in omega arith)

    go : (p : Bool) → (ltb a i && eqb (byte_at s i) 41) ≡ p → read_unit (cond p (counted (group ts) (count_at s (i + 1))) UnitRead.no) ≡ true →
        (i < length s) × (added_unit m (cond p (counted (group ts) (count_at s (i + 1))) UnitRead.no) t ≡ added_units (sat (m * count_value s (i + 1))) (units i ts) t)
    go true q h =
        let c = eqb-true (byte_at s i) 41 ((and-eq-true_iff (ltb a i) (eqb (byte_at s i) 41)).0 q).1 in
        (inside s i (omega arith), value (count_at s (i + 1)) refl h)
    go false q h = absurd (let z : ◌≡◌ {A = ℕ} 0 1 = cc in omega arith)
closed_by s a e m UnitsRead.no t h r = absurd (let z : ◌≡◌ {A = ℕ} 0 1 = cc in omega arith)

closed_read : (s : List ℕ) (a : ℕ) (x : UnitsRead) → read_unit (closed s a x) ≡ true → read_units x ≡ true
closed_read s a (units i ts) h = refl
closed_read s a UnitsRead.no h = h

bad_units : {X : Type 0} (x : UnitsRead) → told_units x ≡ None → read_units x ≡ true → X
unfolding told_units
bad_units (units i t) e h = absurd (let z : ◌≡◌ {A = ℕ} 0 1 = cc in omega arith)
bad_units UnitsRead.no e h = absurd (let z : ◌≡◌ {A = ℕ} 0 1 = cc in omega arith)

pub flat_never : {X : Type 0} (s : List ℕ) (d a : ℕ) → read_unit (group_of s d a) ≡ true → d ≡ 0 → X
flat_never s d a r h = let e : group_of s d a ≡ UnitRead.no = rw h (group_none s a) in absurd (let z : true ≡ false = sym r ∙ ap read_unit e in let z : ◌≡◌ {A = ℕ} 0 1 = cc in omega arith)

module _ (s : List ℕ) (d a : ℕ) (w : a ≤ length s) (read : read_unit (group_of s d a) ≡ true) (f : d ≡ 0 → ⊥) where
  closed_here : read_unit (closed s a (units_of s (d - 1) a)) ≡ true
  closed_here = rw (sym (group_step s d a f w)) read

  pub inner_read : read_units (units_of s (d - 1) a) ≡ true
  inner_read = closed_read s a (units_of s (d - 1) a) closed_here

  module _ {u : Option ℕ} (eu : u ≡ told_units (units_of s (d - 1) a)) where
    pub inner_never : {X : Type 0} → u ≡ None → X
    inner_never h = bad_units (units_of s (d - 1) a) (sym eu ∙ h) inner_read

    pub inner_within : (e : ℕ) → u ≡ Some e → e + 1 ≤ length s
    inner_within e h = let l = (closed_by s a e 0 (units_of s (d - 1) a) [] (sym eu ∙ h) closed_here).0 in omega arith

    pub group_added : (e : ℕ) → u ≡ Some e → (m k : ℕ) → k ≡ sat (m * count_value s (e + 1)) → (t v : List ℕ) → v ≡ added_units k (units_of s (d - 1) a) t → v ≡ added_unit m (group_of s d a) t
    group_added e h m k ek t v ev =
        ev ∙ ap (λ (i : ℕ). added_units i (units_of s (d - 1) a) t) ek ∙ sym (closed_by s a e m (units_of s (d - 1) a) t (sym eu ∙ h) closed_here).1
        ∙ sym (ap (λ (x : UnitRead). added_unit m x t) (group_step s d a f w))

whole_read : (s : List ℕ) (r : UnitsRead) → whole_of s r ≡ true → read_units r ≡ true
whole_read s (units e ts) h = refl
whole_read s UnitsRead.no h = h

pub symbol_set : (s : List ℕ) (a : ℕ) (t u : List ℕ) (m i k c : ℕ) → u ≡ set t i (sat (get_or t i 0 + k)) → i ≡ element_at s a → k ≡ sat (m * c) → c ≡ symbol_count s a →
    u ≡ set t (element_at s a) (sat (get_or t (element_at s a) 0 + sat (m * symbol_count s a)))
symbol_set s a t u m i k c eu ei ek ec = eu ∙ rw (ei, ek, ec)

-- ---- too many of an element

module _ (t : List ℕ) where
  pub crowd_hit : (i : ℕ) → crowded t 1 118 ≡ crowded t i (119 - i) → i < 119 → 9999 < get_or t i 0 → true ≡ crowded t 1 118
  unfolding crowded
  crowd_hit i e l h = let n : 119 - i ≡ suc (118 - i) = omega arith in sym (e ∙ ap (crowded t i) n ∙ rw (lt-ltb 9999 (get_or t i 0) h))

  pub crowd_next : (i : ℕ) → crowded t 1 118 ≡ crowded t i (119 - i) → i < 119 → get_or t i 0 ≤ 9999 → crowded t 1 118 ≡ crowded t (i + 1) (119 - (i + 1))
  unfolding crowded
  crowd_next i e l h =
      let n : 119 - i ≡ suc (118 - i) = omega arith in
      let k : 118 - i ≡ 119 - (i + 1) = omega arith in
      e ∙ ap (crowded t i) n ∙ rw (le-ltb 9999 (get_or t i 0) h) (ap (crowded t (i + 1)) k)

  pub crowd_end : (i : ℕ) → crowded t 1 118 ≡ crowded t i (119 - i) → 119 ≤ i → false ≡ crowded t 1 118
  unfolding crowded
  crowd_end i e l = let n : 119 - i ≡ 0 = omega arith in sym (e ∙ ap (crowded t i) n)

-- the same as one test of n places from i on
pub crowded_any : (t : List ℕ) (i n : ℕ) → i + n ≤ length t → crowded t i n ≡ list_any (λ c. ltb 9999 c) (take n (drop i t))
unfolding crowded
crowded_any t i zero h = refl
crowded_any t i (suc n) h =
    let one : i < length t = omega arith in
    let more : i + 1 + n ≤ length t = omega arith in
    rw (drop-cons t i 0 one, crowded_any t (i + 1) n more, add-one i)

-- ---- a line

module _ (s : List ℕ) {f : Bool} (ef : f ≡ formula_of s 8) where
  pub shallow_empty : f ≡ true → (t : List ℕ) → t ≡ empty → (read_units (units_of s 8 0) ≡ true) × Below t
  unfolding formula_of
  shallow_empty h t e = (whole_read s (units_of s 8 0) (sym ef ∙ h), rw e empty_below)

  module _ (h : f ≡ true) (t u : List ℕ) (et : t ≡ empty) (eu : u ≡ added_units 1 (units_of s 8 0) t) where
    sums_are : u ≡ sums_of s
    unfolding sums_of
    sums_are = eu ∙ ap (added_units 1 (units_of s 8 0)) et

    pub shallow_many : {c : Bool} → c ≡ crowded u 1 118 → c ≡ true → (33 ≡ number_of (shallow_of s)) × (u ≡ counts_of s)
    unfolding shallow_of counts_of
    shallow_many ec hc =
        let p : formula_of s 8 ≡ true = sym ef ∙ h in
        let q : crowded (sums_of s) 1 118 ≡ true = ap (λ (x : List ℕ). crowded x 1 118) (sym sums_are) ∙ sym ec ∙ hc in
        (rw (p, q), rw p sums_are)

    pub shallow_few : {c : Bool} → c ≡ crowded u 1 118 → c ≡ false → (0 ≡ number_of (shallow_of s)) × (u ≡ counts_of s)
    unfolding shallow_of counts_of
    shallow_few ec hc =
        let p : formula_of s 8 ≡ true = sym ef ∙ h in
        let q : crowded (sums_of s) 1 118 ≡ false = ap (λ (x : List ℕ). crowded x 1 118) (sym sums_are) ∙ sym ec ∙ hc in
        (rw (p, q), rw p sums_are)

  pub shallow_not : f ≡ false → (t : List ℕ) → t ≡ empty → (32 ≡ number_of (shallow_of s)) × (t ≡ counts_of s)
  unfolding shallow_of counts_of
  shallow_not h t e = let p : formula_of s 8 ≡ false = sym ef ∙ h in (rw p, rw p e)

pub line_formula : (s : List ℕ) {f : Bool} → f ≡ formula_of s (length s) → f ≡ true → {r : ℕ} → r ≡ number_of (shallow_of s) → r ≡ number_of (verdict_of s)
unfolding verdict_of
line_formula s ef h er = let p : formula_of s (length s) ≡ true = sym ef ∙ h in er ∙ rw p

pub line_none : (s : List ℕ) {f : Bool} → f ≡ formula_of s (length s) → f ≡ false → (t : List ℕ) → t ≡ empty → (31 ≡ number_of (verdict_of s)) × (t ≡ counts_of s)
unfolding verdict_of
line_none s ef h t e = let p : formula_of s (length s) ≡ false = sym ef ∙ h in (rw p, e ∙ counts_none s p)

pub ruleset numbers = (sat_small, sat_big, mul_fits)

pub ruleset values = (value_none, value_one, value_two, value_three, as_digit, symbol_value)

pub ruleset crowds = (crowd_hit, crowd_next, crowd_end)

pub ruleset sums = (group_read, open_never, open_more, open_added, none_added, symbol_never, symbol_more, symbol_added, flat_never, inner_read, inner_never, inner_within, group_added)
