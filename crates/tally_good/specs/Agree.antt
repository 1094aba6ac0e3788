-- The test says that a list is good exactly if it is by the rules; and what it says of flat memory.
use Rattle.std.specs.Prelude.{ℕ, zero, suc, ◌+◌, ◌≤◌, ◌<◌, ◌≡◌, refl, List, [], ◌∷◌, Bool, true, false, cond, eqb, ltb, length, get_or}
use Rattle.std.proofs.Common.{arith, sym, ap, ◌∙◌, subst, eq-eqb, eqb-true, le-ltb, ltb-false}
use Rattle.std.proofs.lemmas.Bool.{false≢true}
use Rattle.tally_rules.specs.declared.Order.{Order}
use Rattle.tally_rules.specs.declared.Tally.{Tally}
use Rattle.tally_rules.specs.declared.Totals.{Totals}
use Rattle.tally_rules.specs.Tally.{most_suppliers, longest, most_records, order, name_of, Rising, Short, sum_of}
use Rattle.tally_rules.specs.Book.{Book, Good}
use Rattle.tally_flat.specs.Flat.{Memory, tallies_from}
use Rattle.tally_flat.specs.Slots.{names_of}
use Rattle.tally_flat.specs.Memory.{tallies_length}
use Rattle.tally_good.specs.Judge.{book_of, is_before, rising_names, short_names, good_book, short_from, sum_from}

before_true : (o : Order) → is_before o ≡ true → o ≡ Order.Before
before_true Order.Before h = refl
before_true Order.Same h = absurd (false≢true h)
before_true Order.After h = absurd (false≢true h)

pub rising_told : (ts : List Tally) → rising_names (names_of ts) ≡ true → Rising ts
unfolding rising_names Rising
rising_told [] h = tt
rising_told (t ∷ []) h = tt
rising_told (t ∷ u ∷ ts) h = go (is_before (order (name_of t) (name_of u))) refl h (rising_told (u ∷ ts))
  where
    go : (b : Bool) → is_before (order (name_of t) (name_of u)) ≡ b → cond b (rising_names (names_of (u ∷ ts))) false ≡ true →
        (rising_names (names_of (u ∷ ts)) ≡ true → Rising (u ∷ ts)) → (order (name_of t) (name_of u) ≡ Order.Before) × Rising (u ∷ ts)
    go true e q again = (before_true (order (name_of t) (name_of u)) e, again q)
    go false e q again = absurd (false≢true q)

pub told_rising : (ts : List Tally) → Rising ts → rising_names (names_of ts) ≡ true
unfolding rising_names Rising
told_rising [] r = refl
told_rising (t ∷ []) r = refl
told_rising (t ∷ u ∷ ts) r = rw r.0 (told_rising (u ∷ ts) r.1)

pub short_told : (ts : List Tally) → short_names ts ≡ true → Short ts
unfolding short_names Short
short_told [] h = tt
short_told (t ∷ ts) h = go (ltb longest t.length) refl h (short_told ts)
  where
    go : (b : Bool) → ltb longest t.length ≡ b → cond b false (short_names ts) ≡ true → (short_names ts ≡ true → Short ts) → (t.length ≤ longest) × Short ts
    go true e q again = absurd (false≢true q)
    go false e q again = (ltb-false longest t.length e, again q)

pub told_short : (ts : List Tally) → Short ts → short_names ts ≡ true
unfolding short_names Short
told_short [] s = refl
told_short (t ∷ ts) s = rw (le-ltb longest t.length s.0) (told_short ts s.1)

-- ---- The whole test

pub good_told_lem : (b : Book) → good_book b ≡ true → Good b
unfolding good_book
good_told_lem b h = go (ltb most_records b.total) refl (ltb most_suppliers (length b.tallies)) refl (short_names b.tallies) refl (rising_names (names_of b.tallies)) refl h
  where
    go : (p : Bool) → ltb most_records b.total ≡ p → (q : Bool) → ltb most_suppliers (length b.tallies) ≡ q → (r : Bool) → short_names b.tallies ≡ r →
        (s : Bool) → rising_names (names_of b.tallies) ≡ s → cond p false (cond q false (cond r (cond s (eqb (sum_of b.tallies + b.missing) b.total) false) false)) ≡ true → Good b
    go true ep q eq r er s es k = absurd (false≢true k)
    go false ep true eq r er s es k = absurd (false≢true k)
    go false ep false eq false er s es k = absurd (false≢true k)
    go false ep false eq true er false es k = absurd (false≢true k)
    go false ep false eq true er true es k =
        record {
          few = ltb-false most_suppliers (length b.tallies) eq;
          short = short_told b.tallies er;
          rising = rising_told b.tallies es;
          adds = eqb-true (sum_of b.tallies + b.missing) b.total k;
          most = ltb-false most_records b.total ep;
        }

pub told_good : (b : Book) → Good b → good_book b ≡ true
unfolding good_book
told_good b g =
    rw (
      le-ltb most_records b.total g.most,
      le-ltb most_suppliers (length b.tallies) g.few,
      told_short b.tallies g.short,
      told_rising b.tallies g.rising,
      eq-eqb (sum_of b.tallies + b.missing) b.total g.adds,
    )

-- ---- In flat memory

pub short_are : (m : Memory) (i k : ℕ) → short_names (tallies_from m i k) ≡ short_from m.lengths i k
unfolding short_names short_from tallies_from
short_are m i zero = refl
short_are m i (suc k) = ap (cond (ltb longest (get_or m.lengths i 0)) false) (short_are m (i + 1) k)

pub sum_is : (m : Memory) (i k : ℕ) → sum_of (tallies_from m i k) ≡ sum_from m.counts i k
unfolding sum_of sum_from tallies_from
sum_is m i zero = refl
sum_is m i (suc k) = ap (λ (n : ℕ). get_or m.counts i 0 + n) (sum_is m (i + 1) k)

pub short_each : (ls : List ℕ) (i k : ℕ) → short_from ls i k ≡ true → (j : ℕ) → i ≤ j → j < i + k → get_or ls j 0 ≤ longest
unfolding short_from
short_each ls i zero h j a b = absurd (omega arith)
short_each ls i (suc k) h j a b = go (ltb longest (get_or ls i 0)) refl h (λ q l. short_each ls (i + 1) k q j l (omega arith)) (eqb j i) refl
  where
    go : (t : Bool) → ltb longest (get_or ls i 0) ≡ t → cond t false (short_from ls (i + 1) k) ≡ true → (short_from ls (i + 1) k ≡ true → i + 1 ≤ j → get_or ls j 0 ≤ longest) →
        (u : Bool) → eqb j i ≡ u → get_or ls j 0 ≤ longest
    go true e q again u f = absurd (false≢true q)
    go false e q again true f = let z = eqb-true j i f in subst (λ (n : ℕ). get_or ls n 0 ≤ longest) (sym z) (ltb-false longest (get_or ls i 0) e)
    go false e q again false f = again q (let n : (j ≡ i → ⊥) = λ z. false≢true (sym f ∙ eq-eqb j i z) in apart n)
      where
        apart : (j ≡ i → ⊥) → i + 1 ≤ j
        apart n = omega arith

-- what each tally of a good list has
pub short_one : (m : Memory) (t : Totals) → Good (book_of m t) → (j : ℕ) → j < t.entries → get_or m.lengths j 0 ≤ longest
short_one m t g j h = short_each m.lengths 0 t.entries (sym (short_are m 0 t.entries) ∙ told_short (tallies_from m 0 t.entries) g.short) j (omega arith) (omega arith)

one_of : (cs : List ℕ) (i k j : ℕ) → i ≤ j → j < i + k → get_or cs j 0 ≤ sum_from cs i k
unfolding sum_from
one_of cs i zero j a b = absurd (omega arith)
one_of cs i (suc k) j a b = go (eqb j i) refl (λ l. one_of cs (i + 1) k j l (omega arith))
  where
    go : (u : Bool) → eqb j i ≡ u → (i + 1 ≤ j → get_or cs j 0 ≤ sum_from cs (i + 1) k) → get_or cs j 0 ≤ get_or cs i 0 + sum_from cs (i + 1) k
    go true f again = let z = eqb-true j i f in subst (λ (n : ℕ). get_or cs n 0 ≤ get_or cs i 0 + sum_from cs (i + 1) k) (sym z) (omega arith)
    go false f again = let n : (j ≡ i → ⊥) = λ z. false≢true (sym f ∙ eq-eqb j i z) in let l = again (omega (arith, a, n)) in omega (arith, l)

pub small_one : (m : Memory) (t : Totals) → Good (book_of m t) → (j : ℕ) → j < t.entries → get_or m.counts j 0 ≤ most_records
small_one m t g j h =
    let a = one_of m.counts 0 t.entries j (omega arith) (omega arith) in
    let b = sum_is m 0 t.entries in
    omega (arith, a, b, g.adds, g.most)

pub few_entries : (m : Memory) (t : Totals) → Good (book_of m t) → t.entries ≤ most_suppliers
few_entries m t g = omega (arith, g.few, tallies_length m 0 t.entries)
