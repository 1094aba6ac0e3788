-- What is read follows the rules.
use Prim.Native.Nat.{ℕ, zero, suc, ◌+◌, ◌≤◌, ◌<◌}
use Rattle.std.specs.Prelude.{◌≡◌, List, Bool, cond, ◌&&◌, ltb}
use Rattle.std.proofs.Math.Path.{refl}
use Rattle.std.proofs.Common.{sym, arith}
use Rattle.std.proofs.Math.Bool.{true, false, and-eq-true_iff}
use Rattle.std.proofs.Math.Dec.{eqb}
use borrow.Author.Tests.{eqb-true, eqb-false, ltb-true}
use Rattle.formula_rules.specs.Formula.{byte_at, between, is_digit, Tree, Trees, Count, Symbol, Units}
use Rattle.formula_rules.specs.Formula as F
use Rattle.formula_rules.specs.Parse.{CountRead, count, UnitRead, unit, UnitsRead, units, counted, count_at, symbol_end, element_at, element_unit, symbol_at, closed, onto, after, chosen, units_by, group_by, enough, units_of}
use Rattle.formula_rules.specs.Bytes.{is_capital, is_small, between_from, between_is}
use Rattle.formula_rules.specs.Element.{element_of, element_is, found_one, found_two}
use Rattle.formula_rules.specs.Ends.{CountView, count_view}
use Rattle.formula_rules.specs.Depth.{TreeIn, TreesIn}

-- none, or one or more
data Many (s : List ℕ) : ℕ → ℕ → Trees → Type 0 where
  nothing : {a : ℕ} → Many s a a Trees.none
  some : {a e : ℕ} {ts : Trees} → Units s a e ts → Many s a e ts

module _ (s : List ℕ) where
  CountGood : ℕ → CountRead → Type 0
  CountGood a (count e c) = Count s a e c
  CountGood a CountRead.no = Unit {0}

  UnitGood : ℕ → ℕ → UnitRead → Type 0
  UnitGood d a (unit e t) = F.Unit s a e t × TreeIn t d
  UnitGood d a UnitRead.no = Unit {0}

  UnitsGood : ℕ → ℕ → UnitsRead → Type 0
  UnitsGood d a (units e ts) = Many s a e ts × TreesIn ts d
  UnitsGood d a UnitsRead.no = Unit {0}

  -- from behind the opening parenthesis
  GroupGood : ℕ → ℕ → UnitRead → Type 0
  GroupGood d b g = (a : ℕ) → byte_at s a ≡ 40 → a + 1 ≡ b → UnitGood d a g

  digit_from : (l a : ℕ) → l ≤ byte_at s a → is_digit (byte_at s a) ≡ true → between l 57 (byte_at s a) ≡ true
  digit_from l a h e = between_is l 57 (byte_at s a) h (between_from 48 57 (byte_at s a) e).1

  count_good : (a : ℕ) → CountGood a (count_at s a)
  unfolding CountGood
  count_good a = go (count_view s a)
    where
      go : {r : CountRead} → CountView s a r → CountGood a r
      go (CountView.none e) = Count.none
      go (CountView.lone_zero e f) = tt
      go (CountView.lone_one e f g) = tt
      go (CountView.one e f g h) = Count.one (digit_from 50 a (omega (arith, between_from 48 57 (byte_at s a) e, eqb-false (byte_at s a) 48 f, eqb-false (byte_at s a) 49 g)) e)
      go (CountView.two e f g h) = Count.two (digit_from 49 a (omega (arith, between_from 48 57 (byte_at s a) e, eqb-false (byte_at s a) 48 f)) e) g
      go (CountView.three e f g h i) = Count.three (digit_from 49 a (omega (arith, between_from 48 57 (byte_at s a) e, eqb-false (byte_at s a) 48 f)) e) g h
      go (CountView.four e f g h) = tt

  counted_symbol : (d a m k : ℕ) → Symbol s a m k → (r : CountRead) → CountGood m r → UnitGood d a (counted (Tree.atom k) r)
  unfolding CountGood UnitGood TreeIn
  counted_symbol d a m k sy (count e c) g = (F.Unit.symbol sy g, tt)
  counted_symbol d a m k sy CountRead.no g = tt

  symbol_good : (d a : ℕ) → UnitGood d a (symbol_at s a)
  unfolding symbol_at symbol_end element_at UnitGood
  symbol_good d a = go (is_small (byte_at s (a + 1))) refl
    where
      long : (k : ℕ) → element_of (byte_at s a) (byte_at s (a + 1)) ≡ k → is_small (byte_at s (a + 1)) ≡ true → UnitGood d a (element_unit k (count_at s (a + 2)))
      long zero e i = tt
      long (suc k) e i =
          counted_symbol d a (a + 2) (suc k) (Symbol.long (element_is k (byte_at s a) (byte_at s (a + 1)) e) (found_two k (byte_at s a) (byte_at s (a + 1)) i e)) (count_at s (a + 2)) (count_good (a + 2))

      short : (k : ℕ) → element_of (byte_at s a) 32 ≡ k → UnitGood d a (element_unit k (count_at s (a + 1)))
      short zero e = tt
      short (suc k) e =
          counted_symbol d a (a + 1) (suc k) (Symbol.short (element_is k (byte_at s a) 32 e) (found_one k (byte_at s a) e)) (count_at s (a + 1)) (count_good (a + 1))

      go : (t : Bool) → is_small (byte_at s (a + 1)) ≡ t →
          UnitGood d a (element_unit (cond t (element_of (byte_at s a) (byte_at s (a + 1))) (element_of (byte_at s a) 32)) (count_at s (cond t (a + 2) (a + 1))))
      go true e = long (element_of (byte_at s a) (byte_at s (a + 1))) refl e
      go false e = short (element_of (byte_at s a) 32) refl

  grown : {a n e : ℕ} {t : Tree} {ts : Trees} → F.Unit s a n t → Many s n e ts → Units s a e (Trees.more t ts)
  grown u nothing = Units.last u
  grown u (some us) = Units.next u us

  onto_good : (d a n : ℕ) (t : Tree) (r : UnitsRead) → F.Unit s a n t → TreeIn t d → UnitsGood d n r → UnitsGood d a (onto t r)
  unfolding UnitsGood TreeIn
  onto_good d a n t (units e ts) u i g = (some (grown u g.0), (i, g.1))
  onto_good d a n t UnitsRead.no u i g = tt

  after_good : (d a : ℕ) (g : UnitRead) (k : ℕ → UnitsRead) → UnitGood d a g → ((n : ℕ) → UnitsGood d n (k n)) → UnitsGood d a (after g k)
  unfolding UnitGood UnitsGood
  after_good d a (unit n t) k g f = onto_good d a n t (k n) g.0 g.1 (f n)
  after_good d a UnitRead.no k g f = tt

  chosen_good : (d a : ℕ) (p q : Bool) → eqb (byte_at s a) 40 ≡ p → is_capital (byte_at s a) ≡ q → (g : UnitRead) (k : ℕ → UnitsRead) →
      GroupGood d (a + 1) g → ((n : ℕ) → UnitsGood d n (k n)) → UnitsGood d a (chosen p q g (symbol_at s a) a k)
  unfolding UnitsGood GroupGood TreeIn
  chosen_good d a true q e f g k hg hk = after_good d a g k (hg a (eqb-true (byte_at s a) 40 e) refl) hk
  chosen_good d a false true e f g k hg hk = after_good d a (symbol_at s a) k (symbol_good d a) hk
  chosen_good d a false false e f g k hg hk = (nothing, tt)

  counted_group : (d a m : ℕ) (ts : Trees) → byte_at s a ≡ 40 → Units s (a + 1) m ts → byte_at s m ≡ 41 → TreesIn ts d → (r : CountRead) → CountGood (m + 1) r → UnitGood (suc d) a (counted (Tree.group ts) r)
  unfolding CountGood UnitGood TreeIn
  counted_group d a m ts o us cl i (count e c) g = (F.Unit.grouped o us cl g, i)
  counted_group d a m ts o us cl i CountRead.no g = tt

  closed_good : (d b : ℕ) (r : UnitsRead) → UnitsGood d b r → GroupGood (suc d) b (closed s b r)
  unfolding UnitsGood GroupGood UnitGood
  closed_good d b (units e ts) g a o i = go (ltb b e && eqb (byte_at s e) 41) refl
    where
      full : {b e : ℕ} {ts : Trees} → Many s b e ts → b < e → Units s b e ts
      full nothing l = absurd (omega arith)
      full (some us) l = us

      go : (t : Bool) → (ltb b e && eqb (byte_at s e) 41) ≡ t → UnitGood (suc d) a (cond t (counted (Tree.group ts) (count_at s (e + 1))) UnitRead.no)
      go true q =
          let p = (and-eq-true_iff (ltb b e) (eqb (byte_at s e) 41)).0 q in
          let us : Units s (a + 1) e ts = rw i (full g.0 (ltb-true b e p.0)) in
          counted_group d a e ts o us (eqb-true (byte_at s e) 41 p.1) g.1 (count_at s (e + 1)) (count_good (e + 1))
      go false q = tt
  closed_good d b UnitsRead.no g a o i = tt

  mutual
    unfolding units_by UnitsGood GroupGood UnitGood

    units_good : (f d a : ℕ) → UnitsGood d a (units_by f s d a)
    units_good zero d a = tt
    units_good (suc f) d a = chosen_good d a (eqb (byte_at s a) 40) (is_capital (byte_at s a)) refl refl (group_by f s d (a + 1)) (units_by f s d) (group_good f d (a + 1)) (λ n. units_good f d n)

    group_good : (f d b : ℕ) → GroupGood d b (group_by f s d b)
    group_good zero d b = λ a o i. tt
    group_good (suc f) zero b = λ a o i. tt
    group_good (suc f) (suc d) b = closed_good d b (units_by f s d b) (units_good f d b)

  pub units_sound : (d a e : ℕ) (ts : Trees) → units_of s d a ≡ units e ts → a < e → Units s a e ts × TreesIn ts d
  unfolding units_of UnitsGood
  units_sound d a e ts h l = go (units_by (enough s d a) s d a) (units_good (enough s d a) d a) h
    where
      full : {a e : ℕ} {ts : Trees} → Many s a e ts → a < e → Units s a e ts
      full nothing l = absurd (omega arith)
      full (some us) l = us

      go : (r : UnitsRead) → UnitsGood d a r → r ≡ units e ts → Units s a e ts × TreesIn ts d
      go (units m us) g q =
          let x : m ≡ e = cc in
          let y : us ≡ ts = cc in
          let w : UnitsGood d a (units e ts) = rw (sym x, sym y) g in
          (full w.0 l, w.1)
      go UnitsRead.no g q = absurd (let z : ◌≡◌ {A = ℕ} 0 1 = cc in omega arith)
