-- What follows the rules is read, and read in one way.
use Rattle.std.specs.Prelude.{ℕ, zero, suc, ◌+◌, ◌≤◌, ◌<◌, List, Bool, ◌⊎◌, length}
use Rattle.std.proofs.Math.Path.{◌≡◌, refl}
use Rattle.std.proofs.Common.{sym, ap, ◌∙◌, inl, inr, arith}
use Rattle.std.proofs.Math.Bool.{true, false, cond}
use Rattle.std.proofs.Math.Dec.{eqb}
use borrow.Author.Tests.{eq-eqb, ne_eqb, lt-ltb, eqb-true, eqb-false}
use Rattle.formula_rules.specs.Formula.{byte_at, between, is_digit, Element, Tree, Trees, Count, Symbol, Units, Formula}
use Rattle.formula_rules.specs.Formula as F
use Rattle.formula_rules.specs.Parse.{CountRead, count, unit, UnitsRead, units, counted, count_at, symbol_end, element_at, element_unit, symbol_at, onto, units_of, whole_of, formula_of}
use Rattle.formula_rules.specs.Bytes.{is_capital, is_small, between_from, between_is, inside}
use Rattle.formula_rules.specs.Element.{one_letter, two_letters, short_capital, long_letters}
use Rattle.formula_rules.specs.Fuel.{units_is, group_is}
use Rattle.formula_rules.specs.Depth.{TreeIn, TreesIn}
use Rattle.formula_rules.proofs.Sound.{units_sound}
use Rattle.formula_rules.specs.Complete.{outside, Stop, End, end_of, end_text_lem, unit_longer, units_longer, unit_shallow, units_shallow}

module _ (s : List ℕ) where
  end_close : (e : ℕ) → byte_at s e ≡ 41 → End s e
  end_close e h = let w = inside s e (omega arith) in end_of s e 41 h (omega arith) (λ z. omega arith) (omega arith)

  stop_starts : (a : ℕ) → (byte_at s a ≡ 40) ⊎ (is_capital (byte_at s a) ≡ true) → Stop s a
  stop_starts a (inl h) = record { no_digit = outside 48 57 (byte_at s a) (λ p q. omega arith); no_small = outside 97 122 (byte_at s a) (λ p q. omega arith) }
  stop_starts a (inr h) =
      let b = between_from 65 90 (byte_at s a) h in
      record { no_digit = outside 48 57 (byte_at s a) (λ p q. omega arith); no_small = outside 97 122 (byte_at s a) (λ p q. omega arith) }

  -- a count's first digit, if it has one, is no small letter
  digit_not : (l a : ℕ) → between l 57 (byte_at s a) ≡ true → is_small (byte_at s a) ≡ false
  digit_not l a h = let b = between_from l 57 (byte_at s a) h in outside 97 122 (byte_at s a) (λ p q. omega arith)

  as_digit : (l a : ℕ) → 48 ≤ l → between l 57 (byte_at s a) ≡ true → is_digit (byte_at s a) ≡ true
  as_digit l a w h = let b = between_from l 57 (byte_at s a) h in between_is 48 57 (byte_at s a) (omega arith) b.1

  ne_from : (l a k : ℕ) → k < l → between l 57 (byte_at s a) ≡ true → eqb (byte_at s a) k ≡ false
  ne_from l a k w h = let b = between_from l 57 (byte_at s a) h in ne_eqb (byte_at s a) k (λ z. omega arith)

  count_complete : {a e c : ℕ} → Count s a e c → is_digit (byte_at s e) ≡ false → count_at s a ≡ count e c
  unfolding count_at
  count_complete Count.none h = rw h
  count_complete {a} (Count.one p) h = rw (as_digit 50 a (omega arith) p, ne_from 50 a 48 (omega arith) p, h, ne_from 50 a 49 (omega arith) p)
  count_complete {a} (Count.two p q) h = rw (as_digit 49 a (omega arith) p, ne_from 49 a 48 (omega arith) p, q, h)
  count_complete {a} (Count.three p q r) h = rw (as_digit 49 a (omega arith) p, ne_from 49 a 48 (omega arith) p, q, r, h)

  no_small_before : {a e c : ℕ} → Count s a e c → Stop s e → is_small (byte_at s a) ≡ false
  no_small_before Count.none h = h.no_small
  no_small_before {a} (Count.one p) h = digit_not 50 a p
  no_small_before {a} (Count.two p q) h = digit_not 49 a p
  no_small_before {a} (Count.three p q r) h = digit_not 49 a p

  element_unit_lem : (k : ℕ) → Element k → (r : CountRead) → element_unit k r ≡ counted (Tree.atom k) r
  element_unit_lem zero e r = absurd (omega (arith, e.low))
  element_unit_lem (suc k) e r = refl

  symbol_complete : {a m e k c : ℕ} → Symbol s a m k → Count s m e c → Stop s e → symbol_at s a ≡ unit e (Tree.atom k c)
  unfolding symbol_at symbol_end element_at
  symbol_complete {a} {k = k} (Symbol.short el n) q st =
      rw (no_small_before q st, one_letter k (byte_at s a) el n, count_complete q st.no_digit) (element_unit_lem k el _)
  symbol_complete {a} {k = k} (Symbol.long el n) q st =
      rw ((long_letters k (byte_at s a) (byte_at s (a + 1)) el n).1, two_letters k (byte_at s a) (byte_at s (a + 1)) el n, count_complete q st.no_digit) (element_unit_lem k el _)

  symbol_capital : {a m k : ℕ} → Symbol s a m k → is_capital (byte_at s a) ≡ true
  symbol_capital {a} {k = k} (Symbol.short el n) = short_capital k (byte_at s a) el n
  symbol_capital {a} {k = k} (Symbol.long el n) = (long_letters k (byte_at s a) (byte_at s (a + 1)) el n).0

  capital_not : (a : ℕ) → is_capital (byte_at s a) ≡ true → eqb (byte_at s a) 40 ≡ false
  capital_not a h = let b = between_from 65 90 (byte_at s a) h in ne_eqb (byte_at s a) 40 (λ z. omega arith)

  unit_starts : {a e : ℕ} {t : Tree} → F.Unit s a e t → (byte_at s a ≡ 40) ⊎ (is_capital (byte_at s a) ≡ true)
  unit_starts (F.Unit.symbol y k) = inr (symbol_capital y)
  unit_starts (F.Unit.grouped o us cl k) = inl o

  units_start : {a e : ℕ} {ts : Trees} → Units s a e ts → (byte_at s a ≡ 40) ⊎ (is_capital (byte_at s a) ≡ true)
  units_start (Units.last u) = unit_starts u
  units_start (Units.next u us) = unit_starts u

  starts_inside : (a : ℕ) → (byte_at s a ≡ 40) ⊎ (is_capital (byte_at s a) ≡ true) → a < length s
  starts_inside a (inl h) = inside s a (omega arith)
  starts_inside a (inr h) = let b = between_from 65 90 (byte_at s a) h in inside s a (omega arith)

  units_end : (d e : ℕ) → End s e → units_of s d e ≡ units e Trees.none
  units_end d e h = units_is s d e h.within ∙ rw (h.no_open, h.no_capital)

  open_read : (d a m e c : ℕ) (ts : Trees) → byte_at s a ≡ 40 → units_of s d (a + 1) ≡ units m ts → a + 1 < m → byte_at s m ≡ 41 → count_at s (m + 1) ≡ count e c →
      units_of s (suc d) a ≡ onto (Tree.group ts c) (units_of s (suc d) e)
  open_read d a m e c ts o us l cl k =
      let w = inside s a (omega arith) in
      units_is s (suc d) a (omega arith) ∙ rw (eq-eqb (byte_at s a) 40 o, group_is s d (a + 1) (omega arith), us, lt-ltb (a + 1) m l, eq-eqb (byte_at s m) 41 cl, k)

  symbol_read : (d a e : ℕ) (t : Tree) → is_capital (byte_at s a) ≡ true → symbol_at s a ≡ unit e t → units_of s d a ≡ onto t (units_of s d e)
  symbol_read d a e t h k =
      let w = starts_inside a (inr h) in
      units_is s d a (omega arith) ∙ rw (capital_not a h, h, k)

  mutual
    unfolding TreeIn

    unit_complete : {a e : ℕ} {t : Tree} → F.Unit s a e t → (d : ℕ) → TreeIn t d → Stop s e → units_of s d a ≡ onto t (units_of s d e)
    unit_complete {a} {e} (F.Unit.symbol y k) d i st = symbol_read d a e _ (symbol_capital y) (symbol_complete y k st)
    unit_complete (F.Unit.grouped o us cl k) zero i st = absurd i
    unit_complete {a} {e} (F.Unit.grouped {m = m} {c = c} {ts = ts} o us cl k) (suc d) i st =
        open_read d a m e c ts o (units_complete us d i (end_close m cl)) (units_longer s us) cl (count_complete k st.no_digit)

    pub units_complete : {a e : ℕ} {ts : Trees} → Units s a e ts → (d : ℕ) → TreesIn ts d → End s e → units_of s d a ≡ units e ts
    units_complete {e = e} (Units.last {t = t} u) d i h = unit_complete u d i.0 h.stop ∙ ap (onto t) (units_end d e h)
    units_complete (Units.next {m = m} {t = t} u us) d i h = unit_complete u d i.0 (stop_starts m (units_start us)) ∙ ap (onto t) (units_complete us d i.1 h)

  -- a text has one reading at most
  pub one_formula : {ts us : Trees} → Formula s ts → Formula s us → ts ≡ us
  one_formula p q =
      let e = units_complete p (length s) (units_shallow s p (length s) (omega arith)) (end_text_lem s) in
      let f = units_complete q (length s) (units_shallow s q (length s) (omega arith)) (end_text_lem s) in
      cc

  -- read exactly if it follows the rules, nested to d at most
  pub formula_complete : {ts : Trees} → Formula s ts → (d : ℕ) → TreesIn ts d → formula_of s d ≡ true
  unfolding formula_of
  formula_complete p d i = let l = units_longer s p in rw (units_complete p d i (end_text_lem s), ne_eqb (length s) 0 (λ z. omega arith), eq-eqb (length s) (length s) refl)

  pub formula_sound : (d : ℕ) → formula_of s d ≡ true → (ts : Trees) × (Formula s ts × TreesIn ts d)
  unfolding formula_of
  formula_sound d h = go (units_of s d 0) refl h
    where
      go : (r : UnitsRead) → units_of s d 0 ≡ r → whole_of s r ≡ true → (ts : Trees) × (Formula s ts × TreesIn ts d)
      go (units e ts) q w = by (eqb e 0) refl (eqb e (length s)) refl w
        where
          by : (p : Bool) → eqb e 0 ≡ p → (t : Bool) → eqb e (length s) ≡ t → cond p false t ≡ true → (ts : Trees) × (Formula s ts × TreesIn ts d)
          by true f t g w = absurd (let z : ◌≡◌ {A = ℕ} 0 1 = cc in omega arith)
          by false f true g w =
              let x = eqb-true e (length s) g in
              let y : units_of s d 0 ≡ units (length s) ts = rw (sym x) q in
              let n : (e ≡ 0 → ⊥) = eqb-false e 0 f in
              (ts, units_sound s d 0 (length s) ts y (omega arith))
          by false f false g w = absurd (let z : ◌≡◌ {A = ℕ} 0 1 = cc in omega arith)
      go UnitsRead.no q w = absurd (let z : ◌≡◌ {A = ℕ} 0 1 = cc in omega arith)

  -- without a limit: the text's own length is depth enough
  pub formula_any : {ts : Trees} → Formula s ts → formula_of s (length s) ≡ true
  formula_any p = formula_complete p (length s) (units_shallow s p (length s) (omega arith))
