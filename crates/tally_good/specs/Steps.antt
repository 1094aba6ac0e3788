-- The test in the facts that the code has.
use Prim.Native.Nat.{ℕ, zero, suc, ◌+◌, ◌*◌, ◌-◌, ◌≤◌, ◌<◌}
use native.Mathlib.Omega.{arith}
use Rattle.std.specs.Prelude.{◌≡◌, List, Bool, ltb, length, get_or, take, drop}
use Rattle.std.proofs.Math.Path.{refl, sym, ap, ap₂}
use Rattle.std.proofs.Common.{◌∙◌, Fits}
use Rattle.std.proofs.Math.Bool.{true, false, cond}
use Rattle.std.proofs.lemmas.Bool.{false≢true}
use Rattle.std.proofs.Math.Dec.{eqb}
use borrow.Author.Tests.{eq-eqb, ne_eqb, eqb-true, le-ltb, lt-ltb}
use Rattle.std.specs.Int.{w64}
use Rattle.tally_rules.specs.declared.Order.{Order}
use Rattle.tally_rules.specs.declared.Totals.{Totals}
use Rattle.tally_rules.specs.Tally.{most_suppliers, longest, most_records, order}
use Rattle.tally_flat.specs.Flat.{Memory, Sized, tallies_from, name_at, names_from, Looked}
use Rattle.tally_flat.specs.Slots.{names_of}
use Rattle.tally_flat.specs.Memory.{tallies_length, names_are}
use Rattle.tally_good.specs.Judge.{book_of, is_before, rising_names, short_names, good_book, short_from, sum_from, names_good}
use Rattle.tally_good.specs.Agree.{short_are, sum_is, short_each}

-- ---- Lengths

pub record Shorts (ls : List ℕ) (used i : ℕ) : Type 0 where
  pub inside : i ≤ used
  pub same : short_from ls 0 used ≡ short_from ls i (used - i)

pub shorts_start : (ls : List ℕ) (used : ℕ) → Shorts ls used 0
shorts_start ls used = let e : used ≡ used - 0 = omega arith in record { inside = omega arith; same = ap (short_from ls 0) e }

module _ (ls : List ℕ) (used i : ℕ) (g : Shorts ls used i) where
  step : i < used → short_from ls 0 used ≡ cond (ltb longest (get_or ls i 0)) false (short_from ls (i + 1) (used - (i + 1)))
  unfolding short_from
  step h = let e : used - i ≡ suc (used - (i + 1)) = omega arith in g.same ∙ ap (short_from ls i) e

  pub shorts_not : i < used → longest < get_or ls i 0 → false ≡ short_from ls 0 used
  shorts_not h l = sym (step h ∙ rw (lt-ltb longest (get_or ls i 0) l))

  pub shorts_next : i < used → get_or ls i 0 ≤ longest → Shorts ls used (i + 1)
  shorts_next h l = record { inside = omega arith; same = step h ∙ rw (le-ltb longest (get_or ls i 0) l) }

  pub shorts_end : used ≤ i → true ≡ short_from ls 0 used
  unfolding short_from
  shorts_end h = let e : used - i ≡ 0 = omega arith in sym (g.same ∙ ap (short_from ls i) e)

pub ruleset short_laws = (shorts_start, shorts_not, shorts_next, shorts_end)

-- ---- A name and the next

module _ (ns ls : List ℕ) (used i : ℕ) (g : Looked ns ls used) (h : i + 1 < used) where
  pub pair_one : get_or ls i 0 ≤ longest
  pair_one = g.short i (omega arith)

  pub pair_two : get_or ls (i + 1) 0 ≤ longest
  pair_two = g.short (i + 1) h

  pub pair_cast : Fits w64 (get_or ls i 0)
  pair_cast = record { fits = omega (arith, pair_one) }

  pub pair_cast_2 : Fits w64 (get_or ls (i + 1) 0)
  pair_cast_2 = record { fits = omega (arith, pair_two) }

  pub pair_end : longest * i + get_or ls i 0 ≤ length ns
  pair_end = omega (arith, pair_one, g.few, g.names)

  pub pair_end_2 : longest * (i + 1) + get_or ls (i + 1) 0 ≤ length ns
  pair_end_2 = omega (arith, pair_two, g.few, g.names)

  pub pair_sum : Fits w64 (longest * i + get_or ls i 0)
  pair_sum = record { fits = omega (arith, pair_end, g.names) }

  pub pair_sum_2 : Fits w64 (longest * (i + 1) + get_or ls (i + 1) 0)
  pair_sum_2 = record { fits = omega (arith, pair_end_2, g.names) }

  pub pair_told : (to end : ℕ) → to ≡ longest * i + get_or ls i 0 → end ≡ longest * (i + 1) + get_or ls (i + 1) 0 → (o : Order) →
      o ≡ order (take (to - longest * i) (drop (longest * i) ns)) (take (end - longest * (i + 1)) (drop (longest * (i + 1)) ns)) → o ≡ order (name_at ns ls i) (name_at ns ls (i + 1))
  pair_told to end a b o e =
      let p : to - longest * i ≡ get_or ls i 0 = omega (arith, a) in
      let q : end - longest * (i + 1) ≡ get_or ls (i + 1) 0 = omega (arith, b) in
      e ∙ ap₂ (λ (x y : ℕ). order (take x (drop (longest * i) ns)) (take y (drop (longest * (i + 1)) ns))) p q

-- ---- Names

pub record Risen (ns ls : List ℕ) (used i : ℕ) : Type 0 where
  pub looked : Looked ns ls used
  pub inside : i ≤ used
  pub same : rising_names (names_from ns ls 0 used) ≡ rising_names (names_from ns ls i (used - i))

pub risen_start : (ns ls : List ℕ) (used : ℕ) → Looked ns ls used → Risen ns ls used 0
risen_start ns ls used g =
    let e : used ≡ used - 0 = omega arith in
    record { looked = g; inside = omega arith; same = ap (λ (k : ℕ). rising_names (names_from ns ls 0 k)) e }

module _ (ns ls : List ℕ) (used i : ℕ) (g : Risen ns ls used i) where
  pub risen_looked : i + 1 < used → Looked ns ls used × (i + 1 < used)
  risen_looked h = (g.looked, h)

  pub risen_fits : Fits w64 (i + 1)
  risen_fits = record { fits = omega (arith, g.inside, g.looked.few) }

  pub risen_end : used ≤ i + 1 → true ≡ rising_names (names_from ns ls 0 used)
  unfolding rising_names names_from
  risen_end h = sym (g.same ∙ go (used - i) (omega arith))
    where
      go : (k : ℕ) → k ≤ 1 → rising_names (names_from ns ls i k) ≡ true
      go zero l = refl
      go (suc zero) l = refl
      go (suc (suc k)) l = absurd (omega arith)

  module _ (h : i + 1 < used) (o : Order) (eo : o ≡ order (name_at ns ls i) (name_at ns ls (i + 1))) where
    both : rising_names (names_from ns ls 0 used) ≡ cond (is_before o) (rising_names (names_from ns ls (i + 1) (used - (i + 1)))) false
    unfolding rising_names names_from
    both =
        let e : used - i ≡ suc (suc (used - (i + 1 + 1))) = omega arith in
        let f : suc (used - (i + 1 + 1)) ≡ used - (i + 1) = omega arith in
        g.same ∙ ap (λ (k : ℕ). rising_names (names_from ns ls i k)) e
        ∙ ap₂ (λ (x : Order) (k : ℕ). cond (is_before x) (rising_names (names_from ns ls (i + 1) k)) false) (sym eo) f

    pub risen_next : o ≡ Order.Before → Risen ns ls used (i + 1)
    risen_next q = record { looked = g.looked; inside = omega arith; same = both ∙ ap (λ (x : Order). cond (is_before x) (rising_names (names_from ns ls (i + 1) (used - (i + 1)))) false) q }

    pub risen_same : o ≡ Order.Same → false ≡ rising_names (names_from ns ls 0 used)
    risen_same q = sym (both ∙ ap (λ (x : Order). cond (is_before x) (rising_names (names_from ns ls (i + 1) (used - (i + 1)))) false) q)

    pub risen_after : o ≡ Order.After → false ≡ rising_names (names_from ns ls 0 used)
    risen_after q = sym (both ∙ ap (λ (x : Order). cond (is_before x) (rising_names (names_from ns ls (i + 1) (used - (i + 1)))) false) q)

pub ruleset rising_laws = (risen_start, risen_looked, risen_fits, risen_end, risen_next, risen_same, risen_after)

-- ---- The sum

same_test : (a b c d : ℕ) → (a ≡ b → c ≡ d) → (c ≡ d → a ≡ b) → eqb a b ≡ eqb c d
same_test a b c d f g = go (eqb a b) refl (eqb c d) refl
  where
    go : (t : Bool) → eqb a b ≡ t → (u : Bool) → eqb c d ≡ u → eqb a b ≡ eqb c d
    go true e true h = e ∙ sym h
    go true e false h = absurd (false≢true (sym h ∙ eq-eqb c d (f (eqb-true a b e))))
    go false e true h = absurd (false≢true (sym e ∙ eq-eqb a b (g (eqb-true c d h))))
    go false e false h = e ∙ sym h

pub record Adding (cs : List ℕ) (used missing total left i : ℕ) : Type 0 where
  pub inside : i ≤ used
  pub same : eqb (sum_from cs 0 used + missing) total ≡ eqb (sum_from cs i (used - i)) left

pub adding_few : (cs : List ℕ) (used missing total : ℕ) → total < missing → false ≡ eqb (sum_from cs 0 used + missing) total
adding_few cs used missing total h = sym (ne_eqb (sum_from cs 0 used + missing) total (λ e. omega (arith, e, h)))

pub adding_start : (cs : List ℕ) (used missing total : ℕ) → missing ≤ total → Adding cs used missing total (total - missing) 0
adding_start cs used missing total h =
    let e : used ≡ used - 0 = omega arith in
    record {
      inside = omega arith;
      same =
          same_test (sum_from cs 0 used + missing) total (sum_from cs 0 used) (total - missing) (λ q. omega (arith, q, h)) (λ q. omega (arith, q, h))
          ∙ ap (λ (k : ℕ). eqb (sum_from cs 0 k) (total - missing)) e;
    }

module _ (cs : List ℕ) (used missing total left i : ℕ) (g : Adding cs used missing total left i) where
  sum_step : i < used → sum_from cs i (used - i) ≡ get_or cs i 0 + sum_from cs (i + 1) (used - (i + 1))
  unfolding sum_from
  sum_step h = let e : used - i ≡ suc (used - (i + 1)) = omega arith in ap (sum_from cs i) e

  pub adding_less : i < used → left < get_or cs i 0 → false ≡ eqb (sum_from cs 0 used + missing) total
  adding_less h l = sym (g.same ∙ ne_eqb (sum_from cs i (used - i)) left (λ e. omega (arith, e, l, sum_step h)))

  pub adding_next : i < used → get_or cs i 0 ≤ left → Adding cs used missing total (left - get_or cs i 0) (i + 1)
  adding_next h l =
      record {
        inside = omega arith;
        same =
            g.same
            ∙ same_test (sum_from cs i (used - i)) left (sum_from cs (i + 1) (used - (i + 1))) (left - get_or cs i 0) (λ q. omega (arith, q, l, sum_step h)) (λ q. omega (arith, q, l, sum_step h));
      }

  pub adding_end : used ≤ i → eqb left 0 ≡ eqb (sum_from cs 0 used + missing) total
  unfolding sum_from
  adding_end h =
      let e : used - i ≡ 0 = omega arith in
      sym (g.same ∙ ap (λ (k : ℕ). eqb (sum_from cs i k) left) e ∙ same_test 0 left left 0 (λ q. sym q) (λ q. sym q))

pub ruleset adding_laws = (adding_few, adding_start, adding_less, adding_next, adding_end)

-- ---- The whole test

pub names_sum : (m : Memory) (t : Totals) → {a : Bool} → a ≡ rising_names (names_from m.names m.lengths 0 t.entries) → a ≡ true → (r : Bool) →
    r ≡ eqb (sum_from m.counts 0 t.entries + t.missing) t.total → r ≡ names_good m t
unfolding names_good
names_sum m t ea h r e = let z = sym ea ∙ h in e ∙ rw z

pub names_not : (m : Memory) (t : Totals) → {a : Bool} → a ≡ rising_names (names_from m.names m.lengths 0 t.entries) → a ≡ false → false ≡ names_good m t
unfolding names_good
names_not m t ea h = let z = sym ea ∙ h in rw z

module _ (m : Memory) (t : Totals) where
  pub good_above : most_records < t.total → false ≡ good_book (book_of m t)
  unfolding good_book
  good_above h = rw (lt-ltb most_records t.total h)

  module _ (h : t.total ≤ most_records) where
    pub good_many : most_suppliers < t.entries → false ≡ good_book (book_of m t)
    unfolding good_book
    good_many l =
        let w = lt-ltb most_suppliers (length (tallies_from m 0 t.entries)) (omega (arith, l, tallies_length m 0 t.entries)) in
        rw (le-ltb most_records t.total h, w)

    module _ (l : t.entries ≤ most_suppliers) {a : Bool} (ea : a ≡ short_from m.lengths 0 t.entries) where
      few : ltb most_suppliers (length (tallies_from m 0 t.entries)) ≡ false
      few = le-ltb most_suppliers (length (tallies_from m 0 t.entries)) (omega (arith, l, tallies_length m 0 t.entries))

      pub good_long : a ≡ false → false ≡ good_book (book_of m t)
      unfolding good_book
      good_long q =
          let s : short_names (tallies_from m 0 t.entries) ≡ false = short_are m 0 t.entries ∙ sym ea ∙ q in
          rw (le-ltb most_records t.total h, few, s)

      pub good_looked : Sized m → a ≡ true → Looked m.names m.lengths t.entries
      good_looked z q =
          record { names = z.names; lengths = z.lengths; few = l; short = λ j k. short_each m.lengths 0 t.entries (sym ea ∙ q) j (omega arith) (omega arith) }

      pub good_rest : a ≡ true → (r : Bool) → r ≡ names_good m t → r ≡ good_book (book_of m t)
      unfolding good_book names_good
      good_rest q r e =
          let s : short_names (tallies_from m 0 t.entries) ≡ true = short_are m 0 t.entries ∙ sym ea ∙ q in
          let n : names_of (tallies_from m 0 t.entries) ≡ names_from m.names m.lengths 0 t.entries =
          names_are m 0 t.entries (λ j k. short_each m.lengths 0 t.entries (sym ea ∙ q) j (omega arith) (omega arith)) in
          let k = sum_is m 0 t.entries in
          e ∙ rw (le-ltb most_records t.total h, few, s, n, k)
