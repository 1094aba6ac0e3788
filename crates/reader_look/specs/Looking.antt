-- The two loops of a look; and one answer for every text and name.
use Rattle.std.specs.Prelude.{ℕ, ◌+◌, ◌-◌, ◌*◌, ◌^◌, ◌≤◌, ◌<◌, ◌≡◌, refl, Bool, true, false, eqb, length, take, drop}
use Rattle.std.proofs.Common.{arith, sym, ◌∙◌, subst, Fits}
use Rattle.std.proofs.Math.Path.{ap}
use borrow.Author.Tests.{eq-eqb, ne_eqb, le-leb, lt-leb}
use Rattle.std.specs.Int.{w64}
use Rattle.text.specs.Text.{Bytes, Line}
use Rattle.text.specs.Columns.{column}
use Rattle.text.specs.Find.{line_at, same_bytes}
use Rattle.text.specs.Cut.{line_within}
use Rattle.text.specs.declared.LineAt.{LineAt}
use Rattle.text.specs.Laws.{true_false}
use Rattle.reader_items.specs.Promise.{Stepped}
use Rattle.reader_items.specs.Stepping.{ItemWithin}
use Rattle.reader_items.proofs.Stepping.{item_within, end_within}
use Rattle.reader_items.specs.declared.ItemAt.{ItemAt}
use Rattle.reader_look.specs.declared.Looked.{Looked}
use Rattle.reader_look.specs.declared.Reached.{Reached}
use Rattle.reader_look.specs.declared.Sought.{Sought}
use Rattle.reader_look.specs.Look.{begins_item, Reaches, keep_first, keep, looked_by, unlooked, Looks, LookOf}

-- ---- The small functions

module _ (l : Line) (lines : ℕ) where
  pub begins_early : lines < 3 → false ≡ begins_item l lines
  unfolding begins_item
  begins_early h = rw (lt-leb 3 lines h)

  module _ (late : 3 ≤ lines) (b : ℕ) (e : b ≡ column l 1) where
    pub begins_arrow : b ≡ 62 → true ≡ begins_item l lines
    unfolding begins_item
    begins_arrow h = rw (le-leb 3 lines late, eq-eqb (column l 1) 62 (sym e ∙ h))

    pub begins_dollar : (t : Bool) → (b ≡ 62 → ⊥) → t ≡ eqb b 36 → t ≡ begins_item l lines
    unfolding begins_item
    begins_dollar t h k = k ∙ rw (le-leb 3 lines late, ne_eqb (column l 1) 62 (λ z. h (e ∙ z)), e)

pub ruleset begins_laws = (begins_early, begins_arrow, begins_dollar)

module _ (q : Sought) (from to : ℕ) where
  pub first_new : q ≡ Sought.Nowhere → Sought.At from to ≡ keep_first q from to
  unfolding keep_first
  first_new h = ap (λ (x : Sought). keep_first x from to) (sym h)

  pub kept_named : (t : Bool) (r : Sought) → t ≡ true → r ≡ keep_first q from to → r ≡ keep q t from to
  unfolding keep
  kept_named t r h k = k ∙ rw h

  pub kept_other : (t : Bool) → t ≡ false → q ≡ keep q t from to
  unfolding keep
  kept_other t h = rw h

module _ (q : Sought) (n k : ℕ) where
  pub looked_item : (a b : ℕ) → q ≡ Sought.At a b → Looked.Item a b n k ≡ looked_by q n k
  unfolding looked_by
  looked_item a b h = ap (λ (x : Sought). looked_by x n k) (sym h)

  pub looked_none : q ≡ Sought.Nowhere → Looked.Missing n k ≡ looked_by q n k
  unfolding looked_by
  looked_none h = ap (λ (x : Sought). looked_by x n k) (sym h)

pub ruleset looked_laws = (looked_item, looked_none)

module _ (e : ℕ) where
  pub short_so : e ≡ 19 → Looked.Beyond ≡ unlooked e
  unfolding unlooked
  short_so h = rw (eq-eqb e 19 h)

  pub other_so : (e ≡ 19 → ⊥) → Looked.Other ≡ unlooked e
  unfolding unlooked
  other_so h = rw (ne_eqb e 19 h)

pub ruleset unlooked_laws = (short_so, other_so)

-- ---- Up to the items

pub record Reaching (s : Bytes) (at lines : ℕ) : Type 0 where
  pub low : lines ≤ at
  pub inside : at ≤ length s
  pub back : (r : Reached) → Reaches s at lines r → Reaches s 0 0 r

pub reaching_start : (s : Bytes) → Reaching s 0 0
reaching_start s = record { low = omega arith; inside = omega arith; back = λ r h. h }

module _ (s : Bytes) (at lines : ℕ) (g : Reaching s at lines) (o : LineAt) (is : o ≡ line_at s at) where
  pub reaching_beyond : o ≡ LineAt.Unfinished → Reaches s 0 0 Reached.Beyond
  reaching_beyond q = g.back Reached.Beyond (Reaches.beyond (sym is ∙ q))

  module _ (e n : ℕ) (q : o ≡ LineAt.Line e n) where
    w : (at ≤ e) × (e < n) × (n ≤ length s)
    w = line_within s at e n (sym is ∙ q)

    pub reaching_low : at ≤ e
    reaching_low = w.0

    pub reaching_high : e ≤ length s
    reaching_high = omega (arith, w.1, w.2)

    pub reaching_less : length s - n < length s - at
    reaching_less = omega (arith, w.0, w.1, w.2)

    pub reaching_fits : length s * 1 < 2 ^ 63 → Fits w64 (lines + 1)
    reaching_fits h = record { fits = omega (arith, g.low, w.0, w.1, w.2) }

    module _ (t : Bool) (f : t ≡ begins_item (take (e - at) (drop at s)) lines) where
      pub reaching_here : t ≡ true → Reaches s 0 0 (Reached.At at lines)
      reaching_here h = g.back (Reached.At at lines) (Reaches.here (sym is ∙ q) (sym f ∙ h))

      pub reaching_on : t ≡ false → Reaching s n (lines + 1)
      reaching_on h =
          record {
            low = omega (arith, g.low, w.0, w.1);
            inside = w.2;
            back = λ r p. g.back r (Reaches.on (sym is ∙ q) (sym f ∙ h) p);
          }

pub ruleset reaching_laws = (reaching_start, reaching_beyond, reaching_low, reaching_high, reaching_less, reaching_fits, reaching_here, reaching_on)

-- ---- Over the items

pub record Looking (s name : Bytes) (start before at lines : ℕ) (sought : Sought) : Type 0 where
  pub low : lines ≤ at
  pub inside : at ≤ length s
  pub back : (r : Looked) → Looks s name at lines sought r → Looks s name start before Sought.Nowhere r

pub looking_start : (s name : Bytes) (start before : ℕ) → before ≤ start → start ≤ length s → Looking s name start before start before Sought.Nowhere
looking_start s name start before h k = record { low = h; inside = k; back = λ r p. p }

module _ (s name : Bytes) (start before at lines : ℕ) (sought : Sought) (g : Looking s name start before at lines sought) (x : ItemAt) (p : Stepped s at x) where
  pub looking_end : (n : ℕ) (r : Looked) → x ≡ ItemAt.End n → r ≡ looked_by sought n (lines + 1) → Looks s name start before Sought.Nowhere r
  looking_end n r q h = subst (Looks s name start before Sought.Nowhere) (sym h) (g.back (looked_by sought n (lines + 1)) (Looks.end (sym p.judged ∙ q)))

  pub looking_end_fits : (n : ℕ) → x ≡ ItemAt.End n → length s * 1 < 2 ^ 63 → Fits w64 (lines + 1)
  looking_end_fits n q h = let w = end_within s at n (sym p.judged ∙ q) in record { fits = omega (arith, g.low, w.0, w.1) }

  pub looking_stop : (e i c : ℕ) (r : Looked) → x ≡ ItemAt.Refused e i c → r ≡ unlooked e → Looks s name start before Sought.Nowhere r
  looking_stop e i c r q h = subst (Looks s name start before Sought.Nowhere) (sym h) (g.back (unlooked e) (Looks.stop (sym p.judged ∙ q)))

  module _ (a b from to n k : ℕ) (q : x ≡ ItemAt.Item a b from to n k) where
    goes : ItemWithin s at a b n k
    goes = item_within s at a b from to n k (sym p.judged ∙ q)

    pub looking_low : a ≤ b
    looking_low = goes.name_order

    pub looking_high : b ≤ length s
    looking_high = goes.name_inside

    pub looking_less : length s - n < length s - at
    looking_less = omega (arith, goes.some, goes.onward, goes.inside)

    pub looking_fits : length s * 1 < 2 ^ 63 → Fits w64 (lines + k)
    looking_fits h = record { fits = omega (arith, g.low, goes.onward, goes.inside) }

    pub looking_on : (t : Bool) (next : Sought) → t ≡ same_bytes (take (b - a) (drop a s)) name → next ≡ keep sought t from to → Looking s name start before n (lines + k) next
    looking_on t next f h =
        record {
          low = omega (arith, g.low, goes.onward);
          inside = goes.inside;
          back = λ r z.
              g.back r
              (Looks.on (sym p.judged ∙ q)
              (subst (λ (y : Sought). Looks s name n (lines + k) y r) (h ∙ ap (λ (u : Bool). keep sought u from to) f) z));
        }

pub ruleset looking_laws = (looking_start, looking_end, looking_end_fits, looking_stop, looking_low, looking_high, looking_less, looking_fits, looking_on)

-- where items start lies in the text
reached_within : {s : Bytes} {at lines a k : ℕ} {r : Reached} → Reaches s at lines r → r ≡ Reached.At a k → lines ≤ at → at ≤ length s → (k ≤ a) × (a ≤ length s)
reached_within {at = at} {lines = lines} {a = a} {k = k} (Reaches.here l t) q h i =
    let x : at ≡ a = cc in
    let y : lines ≡ k = cc in
    (omega arith, omega arith)
reached_within {s = s} {at = at} (Reaches.on {e = e} {n = n} l t p) q h i =
    let w = line_within s at e n l in
    reached_within p q (omega (arith, w.0, w.1)) w.2
reached_within (Reaches.beyond l) q h i = absurd (let z : ◌≡◌ {A = ℕ} 0 1 = cc in omega arith)

module _ (s : Bytes) (x : Reached) (p : Reaches s 0 0 x) (a k : ℕ) (q : x ≡ Reached.At a k) where
  pub reached_low : k ≤ a
  reached_low = (reached_within p q (omega arith) (omega arith)).0

  pub reached_high : a ≤ length s
  reached_high = (reached_within p q (omega arith) (omega arith)).1

-- ---- One answer

ends_apart : {X : Type 0} {e n : ℕ} → LineAt.Line e n ≡ LineAt.Unfinished → X
ends_apart h = absurd (let z : ◌≡◌ {A = ℕ} 0 1 = cc in omega arith)

module _ (s : Bytes) where
  begins_as : (at lines e n e' n' : ℕ) → line_at s at ≡ LineAt.Line e n → line_at s at ≡ LineAt.Line e' n' →
      begins_item (take (e - at) (drop at s)) lines ≡ begins_item (take (e' - at) (drop at s)) lines
  begins_as at lines e n e' n' h k = let z : LineAt.Line e n ≡ LineAt.Line e' n' = sym h ∙ k in let same : e ≡ e' = cc in ap (λ (i : ℕ). begins_item (take (i - at) (drop at s)) lines) same

  next_as : (at : ℕ) {e n e' n' : ℕ} → line_at s at ≡ LineAt.Line e n → line_at s at ≡ LineAt.Line e' n' → n ≡ n'
  next_as at {e = e} {n = n} {e' = e'} {n' = n'} h k = let z : LineAt.Line e n ≡ LineAt.Line e' n' = sym h ∙ k in cc

  pub reaches_one : {at lines : ℕ} {r q : Reached} → Reaches s at lines r → Reaches s at lines q → r ≡ q
  reaches_one (Reaches.here l t) (Reaches.here k u) = refl
  reaches_one {at = at} {lines = lines} (Reaches.here {e = e} {n = n} l t) (Reaches.on {e = e'} {n = n'} k u p) = true_false (sym t ∙ begins_as at lines e n e' n' l k ∙ u)
  reaches_one (Reaches.here l t) (Reaches.beyond k) = ends_apart (sym l ∙ k)
  reaches_one {at = at} {lines = lines} (Reaches.on {e = e} {n = n} l t p) (Reaches.here {e = e'} {n = n'} k u) = true_false (sym u ∙ begins_as at lines e' n' e n k l ∙ t)
  reaches_one {at = at} {lines = lines} {q = r} (Reaches.on l t p) (Reaches.on k u q) = reaches_one p (subst (λ (i : ℕ). Reaches s i (lines + 1) r) (next_as at k l) q)
  reaches_one (Reaches.on l t p) (Reaches.beyond k) = ends_apart (sym l ∙ k)
  reaches_one (Reaches.beyond l) (Reaches.here k u) = ends_apart (sym k ∙ l)
  reaches_one (Reaches.beyond l) (Reaches.on k u q) = ends_apart (sym k ∙ l)
  reaches_one (Reaches.beyond l) (Reaches.beyond k) = refl

  module _ (name : Bytes) where
    pub looks_one : {at lines : ℕ} {sought : Sought} {r q : Looked} → Looks s name at lines sought r → Looks s name at lines sought q → r ≡ q
    looks_one {lines = lines} {sought = sought} (Looks.end {n = n} h) (Looks.end {n = m} k) =
        let z : ItemAt.End n ≡ ItemAt.End m = sym h ∙ k in
        let nm : n ≡ m = cc in
        ap (λ (i : ℕ). looked_by sought i (lines + 1)) nm
    looks_one (Looks.end h) (Looks.stop k) = absurd (let z = sym h ∙ k in let z : ◌≡◌ {A = ℕ} 0 1 = cc in omega arith)
    looks_one (Looks.end h) (Looks.on k p) = absurd (let z = sym h ∙ k in let z : ◌≡◌ {A = ℕ} 0 1 = cc in omega arith)
    looks_one (Looks.stop h) (Looks.end k) = absurd (let z = sym h ∙ k in let z : ◌≡◌ {A = ℕ} 0 1 = cc in omega arith)
    looks_one (Looks.stop {e = e} {i = i} {c = c} h) (Looks.stop {e = e'} {i = i'} {c = c'} k) =
        let z : ItemAt.Refused e i c ≡ ItemAt.Refused e' i' c' = sym h ∙ k in
        let same : e ≡ e' = cc in
        ap unlooked same
    looks_one (Looks.stop h) (Looks.on k p) = absurd (let z = sym h ∙ k in let z : ◌≡◌ {A = ℕ} 0 1 = cc in omega arith)
    looks_one (Looks.on h p) (Looks.end k) = absurd (let z = sym h ∙ k in let z : ◌≡◌ {A = ℕ} 0 1 = cc in omega arith)
    looks_one (Looks.on h p) (Looks.stop k) = absurd (let z = sym h ∙ k in let z : ◌≡◌ {A = ℕ} 0 1 = cc in omega arith)
    looks_one {lines = lines} {sought = sought} {q = v} (Looks.on {a = a} {b = b} {from = f} {to = t} {n = n} {k = k} h p) (Looks.on {a = a'} {b = b'} {from = f'} {to = t'} {n = n'} {k = k'} j q) =
        looks_one p (subst (λ (x : ItemAt). Next x) (sym j ∙ h) q)
      where
        -- what follows a step over an item
        Next : ItemAt → Type 0
        Next (ItemAt.Item a b from to n k) = Looks s name n (lines + k) (keep sought (same_bytes (take (b - a) (drop a s)) name) from to) v
        Next (ItemAt.End n) = Unit {0}
        Next (ItemAt.Refused e i c) = Unit {0}

    at_as : {a k a' k' : ℕ} {r : Looked} → Reached.At a k ≡ Reached.At a' k' → Looks s name a k Sought.Nowhere r → Looks s name a' k' Sought.Nowhere r
    at_as {a = a} {k = k} {a' = a'} {k' = k'} {r = r} h p =
        let x : a ≡ a' = cc in
        let y : k ≡ k' = cc in
        subst (λ (i : ℕ). Looks s name i k' Sought.Nowhere r) x (subst (λ (i : ℕ). Looks s name a i Sought.Nowhere r) y p)

    pub look_one : {r q : Looked} → LookOf s name r → LookOf s name q → r ≡ q
    look_one (LookOf.near p l) (LookOf.near q m) = looks_one (at_as (reaches_one p q) l) m
    look_one (LookOf.near p l) (LookOf.far q) = absurd (let z = reaches_one p q in let z : ◌≡◌ {A = ℕ} 0 1 = cc in omega arith)
    look_one (LookOf.far p) (LookOf.near q m) = absurd (let z = reaches_one p q in let z : ◌≡◌ {A = ℕ} 0 1 = cc in omega arith)
    look_one (LookOf.far p) (LookOf.far q) = refl
