-- The readings in the facts that the code has.
use Rattle.std.specs.Prelude.{Option, Some, None, ℕ, zero, suc, ◌+◌, ◌-◌, ◌≤◌, ◌<◌, ◌≡◌, refl, List, [], ◌∷◌, Bool, cond, eqb, length}
use Rattle.std.proofs.Math.Path.{sym, ap}
use Rattle.std.proofs.Common.{◌∙◌, arith}
use Rattle.std.proofs.Math.Bool.{true, false}
use Rattle.std.proofs.Math.ListN.{get_or-eq_default}
use borrow.Author.Tests.{eq-eqb, ne_eqb, lt-ltb, le-ltb, le-leb, lt-leb}
use Rattle.formula_rules.specs.Formula.{byte_at, between, Tree, Trees}
use Rattle.formula_rules.specs.Parse.{CountRead, count, UnitRead, unit, UnitsRead, units, counted, count_at, symbol_end, element_at, element_unit, symbol_at, closed, onto, after, units_of, group_of, whole_of, formula_of}
use Rattle.formula_rules.specs.Bytes.{is_small, inside, between_from}
use Rattle.formula_rules.specs.Element.{only_element, element_of}
use Rattle.text.specs.Columns.{columns, columns_for}
use Rattle.field_symbols.specs.Read.{symbol_in}
use Rattle.formula_rules.specs.Ends.{UnitIn, symbol_end_lem, symbol_in_lem}
use Rattle.formula_rules.specs.Fuel.{units_is, group_is, group_none, group_of_in}
use Rattle.formula_text.specs.Told.{told_count, told_unit, told_units}

pub past : (s : List ℕ) (i : ℕ) → length s ≤ i → 0 ≡ byte_at s i
past s i h = sym (get_or-eq_default s 0 h)

-- ---- a count

module _ (s : List ℕ) (a : ℕ) {x : ℕ} (ex : x ≡ byte_at s a) where
  pub count_none : {p : Bool} → p ≡ between 48 57 x → p ≡ false → Some a ≡ told_count (count_at s a)
  unfolding count_at told_count
  count_none ep tp = let e : between 48 57 (byte_at s a) ≡ false = cc in rw e

  module _ {p : Bool} (ep : p ≡ between 48 57 x) (tp : p ≡ true) where
    pub count_zero : x ≡ 48 → None ≡ told_count (count_at s a)
    unfolding count_at told_count
    count_zero h = let e : between 48 57 (byte_at s a) ≡ true = cc in rw (e, eq-eqb (byte_at s a) 48 (sym ex ∙ h))

    module _ (nz : x ≡ 48 → ⊥) {y : ℕ} (ey : y ≡ byte_at s (a + 1)) {q : Bool} (eq : q ≡ between 48 57 y) where
      pub count_lone : q ≡ false → x ≡ 49 → None ≡ told_count (count_at s a)
      unfolding count_at told_count
      count_lone tq h =
          let e : between 48 57 (byte_at s a) ≡ true = cc in
          let f : between 48 57 (byte_at s (a + 1)) ≡ false = cc in
          rw (e, ne_eqb (byte_at s a) 48 (λ z. nz (ex ∙ z)), f, eq-eqb (byte_at s a) 49 (sym ex ∙ h))

      pub count_one : q ≡ false → (x ≡ 49 → ⊥) → Some (a + 1) ≡ told_count (count_at s a)
      unfolding count_at told_count
      count_one tq h =
          let e : between 48 57 (byte_at s a) ≡ true = cc in
          let f : between 48 57 (byte_at s (a + 1)) ≡ false = cc in
          rw (e, ne_eqb (byte_at s a) 48 (λ z. nz (ex ∙ z)), f, ne_eqb (byte_at s a) 49 (λ z. h (ex ∙ z)))

      module _ (tq : q ≡ true) {z : ℕ} (ez : z ≡ byte_at s (a + 2)) {r : Bool} (er : r ≡ between 48 57 z) where
        pub count_two : r ≡ false → Some (a + 2) ≡ told_count (count_at s a)
        unfolding count_at told_count
        count_two tr =
            let e : between 48 57 (byte_at s a) ≡ true = cc in
            let f : between 48 57 (byte_at s (a + 1)) ≡ true = cc in
            let g : between 48 57 (byte_at s (a + 2)) ≡ false = cc in
            rw (e, ne_eqb (byte_at s a) 48 (λ z. nz (ex ∙ z)), f, g)

        pub count_three : r ≡ true → {v : ℕ} → v ≡ byte_at s (a + 3) → {t : Bool} → t ≡ between 48 57 v → t ≡ false → Some (a + 3) ≡ told_count (count_at s a)
        unfolding count_at told_count
        count_three tr ev et tt' =
            let e : between 48 57 (byte_at s a) ≡ true = cc in
            let f : between 48 57 (byte_at s (a + 1)) ≡ true = cc in
            let g : between 48 57 (byte_at s (a + 2)) ≡ true = cc in
            let h : between 48 57 (byte_at s (a + 3)) ≡ false = cc in
            rw (e, ne_eqb (byte_at s a) 48 (λ z. nz (ex ∙ z)), f, g, h)

        pub count_four : r ≡ true → {v : ℕ} → v ≡ byte_at s (a + 3) → {t : Bool} → t ≡ between 48 57 v → t ≡ true → None ≡ told_count (count_at s a)
        unfolding count_at told_count
        count_four tr ev et tt' =
            let e : between 48 57 (byte_at s a) ≡ true = cc in
            let f : between 48 57 (byte_at s (a + 1)) ≡ true = cc in
            let g : between 48 57 (byte_at s (a + 2)) ≡ true = cc in
            let h : between 48 57 (byte_at s (a + 3)) ≡ true = cc in
            rw (e, ne_eqb (byte_at s a) 48 (λ z. nz (ex ∙ z)), f, g, h)

-- ---- a symbol

counted_told : (t : ℕ → Tree) (r : CountRead) → told_unit (counted t r) ≡ told_count r
unfolding told_unit told_count
counted_told t (count e c) = refl
counted_told t CountRead.no = refl

module _ (x y : ℕ) {r : Option ℕ} (er : r ≡ symbol_in (columns (x ∷ y ∷ 32 ∷ []) 1 (1 + 2))) where
  pub element_unknown : r ≡ None → 0 ≡ element_of x y
  unfolding element_of columns_for
  element_unknown h = sym (ap only_element (sym er ∙ h))

  pub element_known : (k : ℕ) → r ≡ Some k → k ≤ 118 → k ≡ element_of x y
  unfolding element_of columns_for
  element_known k h l = sym (ap only_element (sym er ∙ h) ∙ rw (le-leb k 118 l))

  pub element_other : (k : ℕ) → r ≡ Some k → 118 < k → 0 ≡ element_of x y
  unfolding element_of columns_for
  element_other k h l = sym (ap only_element (sym er ∙ h) ∙ rw (lt-leb k 118 l))

module _ (s : List ℕ) (a : ℕ) {b : ℕ} (eb : b ≡ byte_at s (a + 1)) {p : Bool} (ep : p ≡ between 97 122 b) where
  small_here : (t : Bool) → p ≡ t → is_small (byte_at s (a + 1)) ≡ t
  small_here t h = cc

  pub element_long : p ≡ true → {x : ℕ} → x ≡ byte_at s a → {r : ℕ} → r ≡ element_of x b → r ≡ element_at s a
  unfolding element_at
  element_long tp ex er = er ∙ rw (small_here true tp, ex, eb)

  pub element_short : p ≡ false → {x : ℕ} → x ≡ byte_at s a → {r : ℕ} → r ≡ element_of x 32 → r ≡ element_at s a
  unfolding element_at
  element_short tp ex er = er ∙ rw (small_here false tp, ex)

  pub end_long : p ≡ true → a + 2 ≡ symbol_end s a
  unfolding symbol_end
  end_long tp = rw (small_here true tp)

  pub end_short : p ≡ false → a + 1 ≡ symbol_end s a
  unfolding symbol_end
  end_short tp = rw (small_here false tp)

some_unit : (k : ℕ) (r : CountRead) → (k ≡ 0 → ⊥) → element_unit k r ≡ counted (Tree.atom k) r
some_unit zero r f = absurd (f refl)
some_unit (suc k) r f = refl

module _ (s : List ℕ) (a : ℕ) {k : ℕ} (ek : k ≡ element_at s a) where
  pub symbol_none : k ≡ 0 → None ≡ told_unit (symbol_at s a)
  unfolding symbol_at told_unit
  symbol_none h = let e : element_at s a ≡ 0 = sym ek ∙ h in rw e

  pub symbol_some : (k ≡ 0 → ⊥) → {e : ℕ} → e ≡ symbol_end s a → {r : Option ℕ} → r ≡ told_count (count_at s e) → r ≡ told_unit (symbol_at s a)
  unfolding symbol_at
  symbol_some f ee er =
      er ∙ ap (λ (i : ℕ). told_count (count_at s i)) ee ∙ sym (counted_told (Tree.atom (element_at s a)) (count_at s (symbol_end s a)))
      ∙ ap told_unit (sym (some_unit (element_at s a) (count_at s (symbol_end s a)) (λ z. f (ek ∙ z))))

pub end_within : (s : List ℕ) (a : ℕ) → a < length s → {e : ℕ} → e ≡ symbol_end s a → e ≤ length s
end_within s a w ee = let l = (symbol_end_lem s a w).1 in omega arith

-- ---- units and groups

onto_told : (t : Tree) (r : UnitsRead) → told_units (onto t r) ≡ told_units r
unfolding told_units
onto_told t (units e ts) = refl
onto_told t UnitsRead.no = refl

after_at : (x : UnitRead) (k : ℕ → UnitsRead) (n : ℕ) → told_unit x ≡ Some n → told_units (after x k) ≡ told_units (k n)
unfolding told_unit
after_at (unit m t) k n h = let e : m ≡ n = cc in onto_told t (k m) ∙ ap (λ (i : ℕ). told_units (k i)) e
after_at UnitRead.no k n h = absurd (let z : ◌≡◌ {A = ℕ} 0 1 = cc in omega arith)

after_bad : (x : UnitRead) (k : ℕ → UnitsRead) → told_unit x ≡ None → told_units (after x k) ≡ None
unfolding told_unit told_units
after_bad (unit m t) k h = absurd (let z : ◌≡◌ {A = ℕ} 0 1 = cc in omega arith)
after_bad UnitRead.no k h = refl

unit_ends : (s : List ℕ) (a n : ℕ) (x : UnitRead) → UnitIn s a x → told_unit x ≡ Some n → (a < n) × (n ≤ length s)
unfolding UnitIn told_unit
unit_ends s a n (unit m t) h e = let q : m ≡ n = cc in (omega arith, omega arith)
unit_ends s a n UnitRead.no h e = absurd (let z : ◌≡◌ {A = ℕ} 0 1 = cc in omega arith)

pub group_ends : (s : List ℕ) (d a n : ℕ) {g : Option ℕ} → a ≤ length s → g ≡ told_unit (group_of s d a) → g ≡ Some n → (a < n) × (n ≤ length s)
group_ends s d a n w e h = unit_ends s a n (group_of s d a) (group_of_in s d a w) (sym e ∙ h)

pub symbol_ends : (s : List ℕ) (a n : ℕ) {g : Option ℕ} → a < length s → g ≡ told_unit (symbol_at s a) → g ≡ Some n → (a < n) × (n ≤ length s)
symbol_ends s a n w e h = unit_ends s a n (symbol_at s a) (symbol_in_lem s a w) (sym e ∙ h)

module _ (s : List ℕ) (d a : ℕ) (w : a ≤ length s) {b : ℕ} (eb : b ≡ byte_at s a) where
  pub open_within : b ≡ 40 → a < length s
  open_within h = inside s a (omega arith)

  pub units_open : b ≡ 40 → units_of s d a ≡ after (group_of s d (a + 1)) (units_of s d)
  units_open h = units_is s d a w ∙ rw (eq-eqb (byte_at s a) 40 (sym eb ∙ h))

  pub open_bad : b ≡ 40 → {g : Option ℕ} → g ≡ told_unit (group_of s d (a + 1)) → g ≡ None → None ≡ told_units (units_of s d a)
  open_bad h eg hg = sym (ap told_units (units_open h) ∙ after_bad (group_of s d (a + 1)) (units_of s d) (sym eg ∙ hg))

  pub open_on : b ≡ 40 → {g : Option ℕ} → g ≡ told_unit (group_of s d (a + 1)) → (n : ℕ) → g ≡ Some n → {r : Option ℕ} → r ≡ told_units (units_of s d n) → r ≡ told_units (units_of s d a)
  open_on h eg n hg er = er ∙ sym (ap told_units (units_open h) ∙ after_at (group_of s d (a + 1)) (units_of s d) n (sym eg ∙ hg))

  module _ (no : b ≡ 40 → ⊥) {p : Bool} (ep : p ≡ between 65 90 b) where
    pub capital_within : p ≡ true → a < length s
    capital_within tp =
        let e : between 65 90 (byte_at s a) ≡ true = cc in
        let h = between_from 65 90 (byte_at s a) e in
        inside s a (omega arith)

    pub units_symbol : p ≡ true → units_of s d a ≡ after (symbol_at s a) (units_of s d)
    units_symbol tp = let e : between 65 90 (byte_at s a) ≡ true = cc in units_is s d a w ∙ rw (ne_eqb (byte_at s a) 40 (λ z. no (eb ∙ z)), e)

    pub symbol_bad : p ≡ true → {g : Option ℕ} → g ≡ told_unit (symbol_at s a) → g ≡ None → None ≡ told_units (units_of s d a)
    symbol_bad tp eg hg = sym (ap told_units (units_symbol tp) ∙ after_bad (symbol_at s a) (units_of s d) (sym eg ∙ hg))

    pub symbol_on : p ≡ true → {g : Option ℕ} → g ≡ told_unit (symbol_at s a) → (n : ℕ) → g ≡ Some n → {r : Option ℕ} → r ≡ told_units (units_of s d n) → r ≡ told_units (units_of s d a)
    symbol_on tp eg n hg er = er ∙ sym (ap told_units (units_symbol tp) ∙ after_at (symbol_at s a) (units_of s d) n (sym eg ∙ hg))

    pub units_none : p ≡ false → units_of s d a ≡ units a Trees.none
    units_none tp = let e : between 65 90 (byte_at s a) ≡ false = cc in units_is s d a w ∙ rw (ne_eqb (byte_at s a) 40 (λ z. no (eb ∙ z)), e)

    pub units_end : p ≡ false → Some a ≡ told_units (units_of s d a)
    unfolding told_units
    units_end tp = sym (ap told_units (units_none tp))

pub group_flat : (s : List ℕ) (d a : ℕ) → d ≡ 0 → None ≡ told_unit (group_of s d a)
unfolding told_unit
group_flat s d a h = rw (h, group_none s a)

pub group_step : (s : List ℕ) (d a : ℕ) → (d ≡ 0 → ⊥) → a ≤ length s → group_of s d a ≡ closed s a (units_of s (d - 1) a)
group_step s zero a h w = absurd (h refl)
group_step s (suc d) a h w = let e : suc d - 1 ≡ d = omega arith in rw e (group_is s d a w)

closed_bad : (s : List ℕ) (a : ℕ) (x : UnitsRead) → told_units x ≡ None → told_unit (closed s a x) ≡ None
unfolding told_units told_unit
closed_bad s a (units e ts) h = absurd (let z : ◌≡◌ {A = ℕ} 0 1 = cc in omega arith)
closed_bad s a UnitsRead.no h = refl

closed_empty : (s : List ℕ) (a e : ℕ) (x : UnitsRead) → told_units x ≡ Some e → e ≤ a → told_unit (closed s a x) ≡ None
unfolding told_units told_unit
closed_empty s a e (units m ts) h l = let q : m ≡ e = cc in rw (le-ltb a m (omega arith))
closed_empty s a e UnitsRead.no h l = refl

closed_open : (s : List ℕ) (a e : ℕ) (x : UnitsRead) → told_units x ≡ Some e → a < e → (byte_at s e ≡ 41 → ⊥) → told_unit (closed s a x) ≡ None
unfolding told_units told_unit
closed_open s a e (units m ts) h l f = let q : m ≡ e = cc in rw (q, lt-ltb a e l, ne_eqb (byte_at s e) 41 f)
closed_open s a e UnitsRead.no h l f = refl

closed_on : (s : List ℕ) (a e : ℕ) (x : UnitsRead) → told_units x ≡ Some e → a < e → byte_at s e ≡ 41 → told_unit (closed s a x) ≡ told_count (count_at s (e + 1))
unfolding told_units
closed_on s a e (units m ts) h l f = let q : m ≡ e = cc in rw (q, lt-ltb a e l, eq-eqb (byte_at s e) 41 f) (counted_told (Tree.group ts) (count_at s (e + 1)))
closed_on s a e UnitsRead.no h l f = absurd (let z : ◌≡◌ {A = ℕ} 0 1 = cc in omega arith)

module _ (s : List ℕ) (d a : ℕ) (w : a ≤ length s) (f : d ≡ 0 → ⊥) {u : Option ℕ} (eu : u ≡ told_units (units_of s (d - 1) a)) where
  pub group_bad : u ≡ None → None ≡ told_unit (group_of s d a)
  group_bad h = sym (ap told_unit (group_step s d a f w) ∙ closed_bad s a (units_of s (d - 1) a) (sym eu ∙ h))

  module _ (e : ℕ) (h : u ≡ Some e) where
    pub group_empty : e ≤ a → None ≡ told_unit (group_of s d a)
    group_empty l = sym (ap told_unit (group_step s d a f w) ∙ closed_empty s a e (units_of s (d - 1) a) (sym eu ∙ h) l)

    pub group_open : a < e → {b : ℕ} → b ≡ byte_at s e → (b ≡ 41 → ⊥) → None ≡ told_unit (group_of s d a)
    group_open l eb g = sym (ap told_unit (group_step s d a f w) ∙ closed_open s a e (units_of s (d - 1) a) (sym eu ∙ h) l (λ z. g (eb ∙ z)))

    pub group_on : a < e → {b : ℕ} → b ≡ byte_at s e → b ≡ 41 → {r : Option ℕ} → r ≡ told_count (count_at s (e + 1)) → r ≡ told_unit (group_of s d a)
    group_on l eb g er = er ∙ sym (ap told_unit (group_step s d a f w) ∙ closed_on s a e (units_of s (d - 1) a) (sym eu ∙ h) l (sym eb ∙ g))

pub close_within : (s : List ℕ) (e : ℕ) {b : ℕ} → b ≡ byte_at s e → b ≡ 41 → e + 1 ≤ length s
close_within s e eb g = let h = inside s e (omega arith) in omega arith

-- ---- the whole text

whole_bad : (s : List ℕ) (x : UnitsRead) → told_units x ≡ None → whole_of s x ≡ false
unfolding told_units
whole_bad s (units m ts) h = absurd (let z : ◌≡◌ {A = ℕ} 0 1 = cc in omega arith)
whole_bad s UnitsRead.no h = refl

whole_at : (s : List ℕ) (e : ℕ) (x : UnitsRead) → told_units x ≡ Some e → whole_of s x ≡ cond (eqb e 0) false (eqb e (length s))
unfolding told_units
whole_at s e (units m ts) h = let q : m ≡ e = cc in rw q
whole_at s e UnitsRead.no h = absurd (let z : ◌≡◌ {A = ℕ} 0 1 = cc in omega arith)

module _ (s : List ℕ) (d : ℕ) {u : Option ℕ} (eu : u ≡ told_units (units_of s d 0)) where
  pub formula_bad : u ≡ None → false ≡ formula_of s d
  unfolding formula_of
  formula_bad h = sym (whole_bad s (units_of s d 0) (sym eu ∙ h))

  pub formula_empty : (e : ℕ) → u ≡ Some e → e ≡ 0 → false ≡ formula_of s d
  unfolding formula_of
  formula_empty e h z = sym (whole_at s e (units_of s d 0) (sym eu ∙ h) ∙ rw (eq-eqb e 0 z))

  pub formula_at : (e : ℕ) → u ≡ Some e → (e ≡ 0 → ⊥) → eqb e (length s) ≡ formula_of s d
  unfolding formula_of
  formula_at e h z = sym (whole_at s e (units_of s d 0) (sym eu ∙ h) ∙ rw (ne_eqb e 0 z))

pub ruleset formula_laws = (formula_bad, formula_empty, formula_at)

pub ruleset count_laws = (count_none, count_zero, count_lone, count_one, count_two, count_three, count_four)

pub ruleset element_laws = (element_unknown, element_known, element_other, element_long, element_short, end_long, end_short)

pub ruleset symbol_laws = (symbol_none, symbol_some, end_within)

pub ruleset units_laws = (open_within, open_bad, open_on, capital_within, symbol_bad, symbol_on, units_end)

pub ruleset group_laws = (group_flat, group_bad, group_empty, group_open, group_on, close_within)
