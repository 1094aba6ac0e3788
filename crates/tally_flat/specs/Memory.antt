-- The tallies in flat memory: by parts, after a place is made, after a count has risen.
use Prim.Native.Nat.{ℕ, zero, suc, ◌+◌, ◌*◌, ◌-◌, ◌≤◌, ◌<◌}
use native.Mathlib.Omega.{arith}
use Rattle.std.specs.Prelude.{◌≡◌, refl, Bool, true, false, eqb, length, get_or, set, take, drop}
use Rattle.std.proofs.Math.Path.{sym, ap, ap₂, subst}
use Rattle.std.proofs.Common.{◌∙◌, length-set, get_or-set_same, get_or-set_other, take_at, drop_at, take-take, ext_get_or, eqb-true}
use mathlib.Core.List.{List, ◌∷◌, ◌++◌, append_assoc}
use Rattle.std.proofs.lemmas.Bool.{eqb-false}
use Rattle.text.specs.Text.{Bytes}
use Rattle.tally_rules.specs.declared.Tally.{Tally}
use Rattle.tally_rules.specs.Tally.{most_suppliers, longest, fresh, one_more}
use Rattle.tally_flat.specs.Flat.{Memory, memory, name_bytes, Sized, tally_at, tallies_from, tallies_in, names_from, shifted, inserted, Placed}
use Rattle.tally_flat.specs.Slots.{no_tally, names_of}
use Rattle.tally_flat.specs.Windows.{shifted_length, shifted_low, shifted_high, shifted_up, put_length, put_before, put_after, put_there, window_same, window_padded}

-- ---- Parts

tally_is : (m m' : Memory) (i j : ℕ) → (tally_at m' i).name ≡ (tally_at m j).name → (tally_at m' i).length ≡ (tally_at m j).length → (tally_at m' i).count ≡ (tally_at m j).count → tally_at m' i ≡ tally_at m j
tally_is m m' i j a b c = λ k. record { name = a k; length = b k; count = c k }

pub tallies_length : (m : Memory) (i k : ℕ) → length (tallies_from m i k) ≡ k
unfolding tallies_from
tallies_length m i zero = refl
tallies_length m i (suc k) = ap suc (tallies_length m (i + 1) k)

pub tallies_add : (m : Memory) (i a b : ℕ) → tallies_from m i (a + b) ≡ tallies_from m i a ++ tallies_from m (i + a) b
unfolding tallies_from
tallies_add m i zero b =
    let z : 0 + b ≡ b = omega arith in
    let e : i + 0 ≡ i = omega arith in
    ap (tallies_from m i) z ∙ ap (λ (j : ℕ). tallies_from m j b) (sym e)
tallies_add m i (suc a) b =
    let z : suc a + b ≡ suc (a + b) = omega arith in
    let e : i + 1 + a ≡ i + suc a = omega arith in
    ap (tallies_from m i) z
    ∙ ap (λ (ts : List Tally). tally_at m i ∷ ts) (tallies_add m (i + 1) a b ∙ ap (λ (j : ℕ). tallies_from m (i + 1) a ++ tallies_from m j b) e)

module _ (m : Memory) (i p k : ℕ) (h : p ≤ k) where
  parts : tallies_from m i k ≡ tallies_from m i p ++ tallies_from m (i + p) (k - p)
  parts = let e : k ≡ p + (k - p) = omega arith in ap (tallies_from m i) e ∙ tallies_add m i p (k - p)

  pub tallies_take : take p (tallies_from m i k) ≡ tallies_from m i p
  tallies_take = ap (take p) parts ∙ take_at (tallies_from m i p) (tallies_from m (i + p) (k - p)) p (tallies_length m i p)

  pub tallies_drop : drop p (tallies_from m i k) ≡ tallies_from m (i + p) (k - p)
  tallies_drop = ap (drop p) parts ∙ drop_at (tallies_from m i p) (tallies_from m (i + p) (k - p)) p (tallies_length m i p)

pub tallies_get_d : (m : Memory) (i k j : ℕ) → j < k → get_or (tallies_from m i k) j no_tally ≡ tally_at m (i + j)
unfolding tallies_from
tallies_get_d m i zero j h = absurd (omega arith)
tallies_get_d m i (suc k) zero h = let e : i ≡ i + 0 = omega arith in ap (tally_at m) e
tallies_get_d m i (suc k) (suc j) h = let e : i + 1 + j ≡ i + suc j = omega arith in tallies_get_d m (i + 1) k j (omega arith) ∙ ap (tally_at m) e

-- from the first on
module _ (m : Memory) where
  pub front_add : (a b : ℕ) → tallies_from m 0 (a + b) ≡ tallies_from m 0 a ++ tallies_from m a b
  front_add a b = let e : 0 + a ≡ a = omega arith in tallies_add m 0 a b ∙ ap (λ (j : ℕ). tallies_from m 0 a ++ tallies_from m j b) e

  pub front_drop : (p k : ℕ) → p ≤ k → drop p (tallies_from m 0 k) ≡ tallies_from m p (k - p)
  front_drop p k h = let e : 0 + p ≡ p = omega arith in tallies_drop m 0 p k h ∙ ap (λ (j : ℕ). tallies_from m j (k - p)) e

  pub front_at : (k j : ℕ) → j < k → get_or (tallies_from m 0 k) j no_tally ≡ tally_at m j
  front_at k j h = let e : 0 + j ≡ j = omega arith in tallies_get_d m 0 k j h ∙ ap (tally_at m) e

pub tallies_same : (m m' : Memory) (i i' k : ℕ) → ((j : ℕ) → j < k → tally_at m' (i' + j) ≡ tally_at m (i + j)) → tallies_from m' i' k ≡ tallies_from m i k
unfolding tallies_from
tallies_same m m' i i' zero f = refl
tallies_same m m' i i' (suc k) f =
    let a : i' ≡ i' + 0 = omega arith in
    let b : i + 0 ≡ i = omega arith in
    ap₂ ◌∷◌ (ap (tally_at m') a ∙ f 0 (omega arith) ∙ ap (tally_at m) b)
    (tallies_same m m' (i + 1) (i' + 1) k
    (λ j h.
    let c : i' + 1 + j ≡ i' + suc j = omega arith in
    let d : i + suc j ≡ i + 1 + j = omega arith in
    ap (tally_at m') c ∙ f (suc j) (omega arith) ∙ ap (tally_at m) d))

pub names_are : (m : Memory) (i k : ℕ) → ((j : ℕ) → j < i + k → get_or m.lengths j 0 ≤ longest) → names_of (tallies_from m i k) ≡ names_from m.names m.lengths i k
unfolding tallies_from names_from
names_are m i zero h = refl
names_are m i (suc k) h =
    ap₂ ◌∷◌ (take-take (get_or m.lengths i 0) longest (drop (longest * i) m.names) (h i (omega arith))) (names_are m (i + 1) k (λ j l. h j (omega arith)))

-- ---- A place made

module _ (m : Memory) (p used : ℕ) (n : Bytes) (g : Placed m p used n) where
  abbrev m' : Memory
  m' = inserted p used n m

  abbrev moved : List ℕ
  moved = shifted longest (longest * (used - p)) (longest * p) m.names

  moved_length : length moved ≡ name_bytes
  moved_length = shifted_length longest (longest * (used - p)) (longest * p) m.names ∙ g.sized.names

  names_length : length m'.names ≡ name_bytes
  names_length = put_length longest (longest * p) 0 n moved ∙ moved_length

  pub inserted_sized : Sized m'
  inserted_sized =
      record {
        names = names_length;
        lengths = length-set (shifted 1 (used - p) p m.lengths) p (length n) ∙ shifted_length 1 (used - p) p m.lengths ∙ g.sized.lengths;
        counts = length-set (shifted 1 (used - p) p m.counts) p 1 ∙ shifted_length 1 (used - p) p m.counts ∙ g.sized.counts;
      }

  number_low : (xs : List ℕ) (v j : ℕ) → j < p → get_or (set (shifted 1 (used - p) p xs) p v) j 0 ≡ get_or xs j 0
  number_low xs v j h = get_or-set_other (shifted 1 (used - p) p xs) p j v 0 (λ e. omega (arith, e, h)) ∙ shifted_low 1 (used - p) p xs j (omega arith)

  number_up : (xs : List ℕ) (v j : ℕ) → length xs ≡ most_suppliers → j < used - p → get_or (set (shifted 1 (used - p) p xs) p v) (p + 1 + j) 0 ≡ get_or xs (p + j) 0
  number_up xs v j l h =
      get_or-set_other (shifted 1 (used - p) p xs) p (p + 1 + j) v 0 (λ e. omega (arith, e, h))
      ∙ shifted_up 1 (used - p) p xs (omega (arith, l, g.place, g.room)) (omega arith) j h

  number_high : (xs : List ℕ) (v j : ℕ) → used + 1 ≤ j → get_or (set (shifted 1 (used - p) p xs) p v) j 0 ≡ get_or xs j 0
  number_high xs v j h =
      get_or-set_other (shifted 1 (used - p) p xs) p j v 0 (λ e. omega (arith, e, h, g.place))
      ∙ shifted_high 1 (used - p) p xs j (omega (arith, g.place))

  low : (j : ℕ) → j < p → tally_at m' j ≡ tally_at m j
  low j h =
      tally_is m m' j j
      (window_same m'.names m.names (longest * j) (longest * j) longest (omega (arith, names_length, g.place, g.room)) (omega (arith, g.sized.names, g.place, g.room))
      (λ i l.
      put_before longest (longest * p) 0 n moved (longest * j + i) (omega arith)
      ∙ shifted_low longest (longest * (used - p)) (longest * p) m.names (longest * j + i) (omega arith)))
      (number_low m.lengths (length n) j h)
      (number_low m.counts 1 j h)

  here : tally_at m' p ≡ fresh n
  here =
      let a = window_padded m'.names (longest * p) longest n (omega (arith, names_length, g.place, g.room)) g.name
      (λ i l. put_there longest (longest * p) 0 n moved (omega (arith, moved_length, g.place, g.room)) i (omega arith) (omega arith)) in
      let b = get_or-set_same (shifted 1 (used - p) p m.lengths) p (length n) 0 (omega (arith, shifted_length 1 (used - p) p m.lengths, g.sized.lengths, g.place, g.room)) in
      let c = get_or-set_same (shifted 1 (used - p) p m.counts) p 1 0 (omega (arith, shifted_length 1 (used - p) p m.counts, g.sized.counts, g.place, g.room)) in
      λ k. record { name = a k; length = b k; count = c k }

  up : (j : ℕ) → j < used - p → tally_at m' (p + 1 + j) ≡ tally_at m (p + j)
  up j h =
      tally_is m m' (p + 1 + j) (p + j)
      (window_same m'.names m.names (longest * (p + 1 + j)) (longest * (p + j)) longest (omega (arith, names_length, g.place, g.room)) (omega (arith, g.sized.names, g.place, g.room))
      (λ i l.
      let a : longest * (p + 1 + j) + i ≡ longest * p + longest + (longest * j + i) = omega arith in
      let b : longest * p + (longest * j + i) ≡ longest * (p + j) + i = omega arith in
      put_after longest (longest * p) 0 n moved (longest * (p + 1 + j) + i) (omega arith)
      ∙ ap (λ (k : ℕ). get_or moved k 0) a
      ∙ shifted_up longest (longest * (used - p)) (longest * p) m.names (omega (arith, g.sized.names, g.place, g.room)) (omega arith) (longest * j + i) (omega arith)
      ∙ ap (λ (k : ℕ). get_or m.names k 0) b))
      (number_up m.lengths (length n) j g.sized.lengths h)
      (number_up m.counts 1 j g.sized.counts h)

  high : (j : ℕ) → used + 1 ≤ j → j < most_suppliers → tally_at m' j ≡ tally_at m j
  high j h k =
      tally_is m m' j j
      (window_same m'.names m.names (longest * j) (longest * j) longest (omega (arith, names_length)) (omega (arith, g.sized.names))
      (λ i l.
      put_after longest (longest * p) 0 n moved (longest * j + i) (omega (arith, g.place))
      ∙ shifted_high longest (longest * (used - p)) (longest * p) m.names (longest * j + i) (omega (arith, g.place))))
      (number_high m.lengths (length n) j h)
      (number_high m.counts 1 j h)

  -- all of them
  pub inserted_tallies : tallies_in m' ≡ (tallies_from m 0 p ++ (fresh n ∷ tallies_from m p (used - p))) ++ tallies_from m (used + 1) (most_suppliers - (used + 1))
  unfolding tallies_from
  inserted_tallies =
      let r = most_suppliers - (used + 1) in
      let size : most_suppliers ≡ p + suc (used - p + r) = omega (arith, g.place, g.room) in
      let q : p + 1 + (used - p) ≡ used + 1 = omega (arith, g.place) in
      let a : tallies_from m' 0 p ≡ tallies_from m 0 p = tallies_same m m' 0 0 p (λ j h. let z : j ≡ 0 + j = omega arith in subst (λ (k : ℕ). tally_at m' k ≡ tally_at m k) z (low j h)) in
      let b : tallies_from m' (p + 1) (used - p) ≡ tallies_from m p (used - p) = tallies_same m m' p (p + 1) (used - p) up in
      let c : tallies_from m' (p + 1 + (used - p)) r ≡ tallies_from m (used + 1) r = ap (λ (k : ℕ). tallies_from m' k r) q ∙ tallies_same m m' (used + 1) (used + 1) r (λ j h. high (used + 1 + j) (omega arith) (omega (arith, h, g.room))) in
      let split : tallies_from m' p (suc (used - p + r)) ≡ fresh n ∷ (tallies_from m p (used - p) ++ tallies_from m (used + 1) r) =
      ap₂ ◌∷◌ here (tallies_add m' (p + 1) (used - p) r ∙ ap₂ ◌++◌ b c) in
      ap (tallies_from m' 0) size ∙ front_add m' p (suc (used - p + r)) ∙ ap₂ ◌++◌ a split
      ∙ sym (append_assoc (tallies_from m 0 p) (fresh n ∷ tallies_from m p (used - p)) (tallies_from m (used + 1) r))

-- ---- A count that has risen

module _ (m : Memory) (p : ℕ) (z : Sized m) (h : p < most_suppliers) where
  abbrev risen : Memory
  risen = memory m.names m.lengths (set m.counts p (get_or m.counts p 0 + 1))

  pub risen_sized : Sized risen
  risen_sized = record { names = z.names; lengths = z.lengths; counts = length-set m.counts p (get_or m.counts p 0 + 1) ∙ z.counts }

  pub risen_tallies : tallies_in risen ≡ set (tallies_in m) p (one_more (tally_at m p))
  risen_tallies =
      ext_get_or no_tally (tallies_in risen) (set (tallies_in m) p (one_more (tally_at m p)))
      (tallies_length risen 0 most_suppliers ∙ sym (length-set (tallies_in m) p (one_more (tally_at m p)) ∙ tallies_length m 0 most_suppliers))
      (λ j l. let k : j < most_suppliers = omega (arith, l, tallies_length risen 0 most_suppliers) in front_at risen most_suppliers j k ∙ go j k (eqb j p) refl)
    where
      go : (j : ℕ) → j < most_suppliers → (t : Bool) → eqb j p ≡ t → tally_at risen j ≡ get_or (set (tallies_in m) p (one_more (tally_at m p))) j no_tally
      go j k true e =
          let q = eqb-true j p e in
          let c = get_or-set_same m.counts p (get_or m.counts p 0 + 1) 0 (omega (arith, z.counts)) in
          let at : tally_at risen p ≡ one_more (tally_at m p) = λ i. record { name = (tally_at m p).name; length = (tally_at m p).length; count = c i } in
          ap (λ (y : ℕ). tally_at risen y) q ∙ at
          ∙ sym (get_or-set_same (tallies_in m) p (one_more (tally_at m p)) no_tally (omega (arith, tallies_length m 0 most_suppliers)))
          ∙ ap (λ (y : ℕ). get_or (set (tallies_in m) p (one_more (tally_at m p))) y no_tally) (sym q)
      go j k false e =
          let f = eqb-false j p e in
          let c = get_or-set_other m.counts p j (get_or m.counts p 0 + 1) 0 f in
          let at : tally_at risen j ≡ tally_at m j = λ i. record { name = (tally_at m j).name; length = (tally_at m j).length; count = c i } in
          at ∙ sym (front_at m most_suppliers j k) ∙ sym (get_or-set_other (tallies_in m) p j (one_more (tally_at m p)) no_tally f)
