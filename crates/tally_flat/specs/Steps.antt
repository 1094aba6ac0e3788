-- The loops in the facts that the code has.
use Prim.Native.Nat.{ℕ, zero, suc, ◌+◌, ◌*◌, ◌-◌, ◌≤◌, ◌<◌}
use native.Mathlib.Omega.{arith}
use Rattle.std.specs.Prelude.{◌≡◌, refl, List, [], ◌∷◌, true, false, length, get_or, set, take, drop}
use Rattle.std.proofs.Math.Path.{sym, ap, ap₂}
use Rattle.std.proofs.Common.{◌∙◌, drop_of_length-le, drop-cons, add-one, le-ltb, lt-ltb, le-leb, Fits}
use Rattle.std.proofs.Math.ListN.{length-set}
use Rattle.std.proofs.lemmas.Bool.{lt-leb}
use Rattle.std.specs.Int.{w64}
use Rattle.text.specs.Text.{Bytes}
use Rattle.tally_rules.specs.declared.Order.{Order}
use Rattle.tally_rules.specs.Tally.{most_suppliers, longest, order}
use Rattle.tally_rules.specs.Order.{order_by}
use Rattle.tally_flat.specs.declared.Slot.{Slot}
use Rattle.tally_flat.specs.declared.Added.{Added}
use Rattle.tally_flat.specs.Flat.{Memory, memory, name_at, names_from, Looked, slot_by, slot_from, shifted, put_from, inserted, new_of, after_new}

-- ---- Two names: what is said of the whole is said from byte i on

pub record Ordering (a b : Bytes) (i : ℕ) : Type 0 where
  pub inside : i ≤ length a
  pub beside : i ≤ length b
  pub same : order a b ≡ order (drop i a) (drop i b)

pub ordering_start : (a b : Bytes) → Ordering a b 0
ordering_start a b = record { inside = omega arith; beside = omega arith; same = refl }

module _ (a b : Bytes) (i : ℕ) (g : Ordering a b i) where
  pub ordering_over : i < length a → length b ≤ i → Order.After ≡ order a b
  unfolding order
  ordering_over h k = sym (g.same ∙ ap₂ order (drop-cons a i 0 h) (drop_of_length-le b k))

  pub ordering_short : length a ≤ i → i < length b → Order.Before ≡ order a b
  unfolding order
  ordering_short h k = sym (g.same ∙ ap₂ order (drop_of_length-le a h) (drop-cons b i 0 k))

  pub ordering_same : length a ≤ i → length b ≤ i → Order.Same ≡ order a b
  unfolding order
  ordering_same h k = sym (g.same ∙ ap₂ order (drop_of_length-le a h) (drop_of_length-le b k))

  module _ (h : i < length a) (k : i < length b) where
    both : order a b ≡ order (get_or a i 0 ∷ drop (suc i) a) (get_or b i 0 ∷ drop (suc i) b)
    both = g.same ∙ ap₂ order (drop-cons a i 0 h) (drop-cons b i 0 k)

    pub ordering_less : get_or a i 0 < get_or b i 0 → Order.Before ≡ order a b
    ordering_less l =
        sym (both ∙ order_by (get_or a i 0) (get_or b i 0) (drop (suc i) a) (drop (suc i) b) true false (lt-ltb (get_or a i 0) (get_or b i 0) l) (le-ltb (get_or b i 0) (get_or a i 0) (omega (arith, l))))

    pub ordering_more : get_or b i 0 ≤ get_or a i 0 → get_or b i 0 < get_or a i 0 → Order.After ≡ order a b
    ordering_more u l =
        sym (both ∙ order_by (get_or a i 0) (get_or b i 0) (drop (suc i) a) (drop (suc i) b) false true (le-ltb (get_or a i 0) (get_or b i 0) u) (lt-ltb (get_or b i 0) (get_or a i 0) l))

    pub ordering_next : get_or b i 0 ≤ get_or a i 0 → get_or a i 0 ≤ get_or b i 0 → Ordering a b (i + 1)
    ordering_next u l =
        record {
          inside = omega arith;
          beside = omega arith;
          same =
              both ∙ order_by (get_or a i 0) (get_or b i 0) (drop (suc i) a) (drop (suc i) b) false false (le-ltb (get_or a i 0) (get_or b i 0) u) (le-ltb (get_or b i 0) (get_or a i 0) l)
              ∙ ap (λ (j : ℕ). order (drop j a) (drop j b)) (sym (add-one i));
        }

pub ruleset ordering_laws = (ordering_start, ordering_over, ordering_short, ordering_same, ordering_less, ordering_more, ordering_next)

-- ---- The search: from tally i on

pub record Looking (ns ls : List ℕ) (used : ℕ) (n : Bytes) (i : ℕ) : Type 0 where
  pub looked : Looked ns ls used
  pub inside : i ≤ used
  pub same : slot_from n 0 (names_from ns ls 0 used) ≡ slot_from n i (names_from ns ls i (used - i))

pub looking_start : (ns ls : List ℕ) (used : ℕ) (n : Bytes) → Looked ns ls used → Looking ns ls used n 0
looking_start ns ls used n g =
    let e : used ≡ used - 0 = omega arith in
    record { looked = g; inside = omega arith; same = ap (λ (k : ℕ). slot_from n 0 (names_from ns ls 0 k)) e }

module _ (ns ls : List ℕ) (used : ℕ) (n : Bytes) (i : ℕ) (g : Looking ns ls used n i) where
  pub looking_end : used ≤ i → Slot.New used ≡ slot_from n 0 (names_from ns ls 0 used)
  unfolding slot_from names_from
  looking_end h =
      let e : used - i ≡ 0 = omega arith in
      let u : i ≡ used = omega (arith, g.inside) in
      sym (g.same ∙ ap (λ (k : ℕ). slot_from n i (names_from ns ls i k)) e ∙ ap Slot.New u)

  module _ (h : i < used) where
    pub looking_lengths : i < length ls
    looking_lengths = omega (arith, g.looked.few, g.looked.lengths)

    pub looking_short : get_or ls i 0 ≤ longest
    looking_short = g.looked.short i h

    pub looking_bytes : longest * i + get_or ls i 0 ≤ length ns
    looking_bytes = omega (arith, looking_short, g.looked.few, g.looked.names)

    pub looking_cast : Fits w64 (get_or ls i 0)
    looking_cast = record { fits = omega (arith, looking_short) }

    pub looking_sum : Fits w64 (longest * i + get_or ls i 0)
    looking_sum = record { fits = omega (arith, looking_bytes, g.looked.names) }

    step : slot_from n 0 (names_from ns ls 0 used) ≡ slot_by (order (name_at ns ls i) n) i (slot_from n (i + 1) (names_from ns ls (i + 1) (used - (i + 1))))
    unfolding slot_from names_from
    step =
        let e : used - i ≡ suc (used - (i + 1)) = omega arith in
        g.same ∙ ap (λ (k : ℕ). slot_from n i (names_from ns ls i k)) e

    module _ (to : ℕ) (et : to ≡ longest * i + get_or ls i 0) (o : Order) (eo : o ≡ order (take (to - longest * i) (drop (longest * i) ns)) n) where
      told : order (name_at ns ls i) n ≡ o
      told = let e : to - longest * i ≡ get_or ls i 0 = omega (arith, et) in sym (eo ∙ ap (λ (k : ℕ). order (take k (drop (longest * i) ns)) n) e)

      pub looking_before : o ≡ Order.Before → Looking ns ls used n (i + 1)
      looking_before q = record { looked = g.looked; inside = omega arith; same = step ∙ ap (λ (x : Order). slot_by x i (slot_from n (i + 1) (names_from ns ls (i + 1) (used - (i + 1))))) (told ∙ q) }

      pub looking_here : o ≡ Order.Same → Slot.Here i ≡ slot_from n 0 (names_from ns ls 0 used)
      looking_here q = sym (step ∙ ap (λ (x : Order). slot_by x i (slot_from n (i + 1) (names_from ns ls (i + 1) (used - (i + 1))))) (told ∙ q))

      pub looking_new : o ≡ Order.After → Slot.New i ≡ slot_from n 0 (names_from ns ls 0 used)
      looking_new q = sym (step ∙ ap (λ (x : Order). slot_by x i (slot_from n (i + 1) (names_from ns ls (i + 1) (used - (i + 1))))) (told ∙ q))

-- ---- Moving up and putting down

pub record Moving (w k from : ℕ) (xs₀ xs : List ℕ) (j : ℕ) : Type 0 where
  pub left : j ≤ k
  pub size : length xs ≡ length xs₀
  pub same : shifted w k from xs₀ ≡ shifted w j from xs

pub moving_start : (w k from : ℕ) (xs : List ℕ) → Moving w k from xs xs k
moving_start w k from xs = record { left = omega arith; size = refl; same = refl }

module _ (w k from : ℕ) (xs₀ xs : List ℕ) (j : ℕ) (g : Moving w k from xs₀ xs j) where
  pub moving_end : j ≤ 0 → xs ≡ shifted w k from xs₀
  unfolding shifted
  moving_end h = let e : j ≡ 0 = omega arith in sym (g.same ∙ ap (λ (i : ℕ). shifted w i from xs) e)

  pub moving_next : (i : ℕ) → 0 < j → i ≡ j - 1 → Moving w k from xs₀ (set xs (from + i + w) (get_or xs (from + i) 0)) i
  unfolding shifted
  moving_next i h e =
      let z : j ≡ suc i = omega (arith, e, h) in
      record {
        left = omega (arith, e, g.left);
        size = length-set xs (from + i + w) (get_or xs (from + i) 0) ∙ g.size;
        same = g.same ∙ ap (λ (q : ℕ). shifted w q from xs) z;
      }

pub record Putting (at : ℕ) (n : Bytes) (xs₀ xs : List ℕ) (j : ℕ) : Type 0 where
  pub left : j ≤ longest
  pub size : length xs ≡ length xs₀
  pub same : put_from longest at 0 n xs₀ ≡ put_from (longest - j) at j n xs

pub putting_start : (at : ℕ) (n : Bytes) (xs : List ℕ) → Putting at n xs xs 0
putting_start at n xs = record { left = omega arith; size = refl; same = refl }

module _ (at : ℕ) (n : Bytes) (xs₀ xs : List ℕ) (j : ℕ) (g : Putting at n xs₀ xs j) where
  pub putting_end : longest ≤ j → xs ≡ put_from longest at 0 n xs₀
  unfolding put_from
  putting_end h = let e : longest - j ≡ 0 = omega arith in sym (g.same ∙ ap (λ (k : ℕ). put_from k at j n xs) e)

  pub putting_next : (v : ℕ) → j < longest → v ≡ get_or n j 0 → Putting at n xs₀ (set xs (at + j) v) (j + 1)
  unfolding put_from
  putting_next v h e =
      let z : longest - j ≡ suc (longest - (j + 1)) = omega arith in
      record {
        left = omega arith;
        size = length-set xs (at + j) v ∙ g.size;
        same = g.same ∙ ap (λ (k : ℕ). put_from k at j n xs) z ∙ ap (λ (x : ℕ). put_from (longest - (j + 1)) at (j + 1) n (set xs (at + j) x)) (sym e);
      }

pub byte_past : (n : Bytes) (j : ℕ) → length n ≤ j → ◌≡◌ {A = ℕ} 0 (get_or n j 0)
byte_past [] j h = refl
byte_past (b ∷ n) zero h = absurd (omega arith)
byte_past (b ∷ n) (suc j) h = byte_past n j (omega arith)

-- ---- A new one

pub insert_told : (m : Memory) (p used : ℕ) (n : Bytes) (ns ls cs names : List ℕ) → ns ≡ shifted longest (longest * (used - p)) (longest * p) m.names → names ≡ put_from longest (longest * p) 0 n ns →
    ls ≡ shifted 1 (used - p) p m.lengths → cs ≡ shifted 1 (used - p) p m.counts → memory names (set ls p (length n)) (set cs p 1) ≡ inserted p used n m
insert_told m p used n ns ls cs names a b c d =
    let e : names ≡ put_from longest (longest * p) 0 n (shifted longest (longest * (used - p)) (longest * p) m.names) = b ∙ ap (put_from longest (longest * p) 0 n) a in
    λ i. record { names = e i; lengths = set (c i) p (length n); counts = set (d i) p 1 }

pub new_full : (p used : ℕ) (n : Bytes) (m : Memory) → most_suppliers ≤ used → (Added.Full ≡ new_of used) × (m ≡ after_new p used n m)
unfolding after_new
new_full p used n m h = let e = le-leb most_suppliers used h in (rw e, rw e)

pub new_room : (p used : ℕ) (n : Bytes) (m m' : Memory) → used < most_suppliers → m' ≡ inserted p used n m → (Added.Now (used + 1) ≡ new_of used) × (m' ≡ after_new p used n m)
unfolding after_new
new_room p used n m m' h e = let l = lt-leb most_suppliers used h in (rw l, e ∙ rw l)
