-- The loops over the labels.
use Prim.Native.Nat.{ℕ, ◌+◌, ◌-◌, ◌*◌, ◌≤◌, ◌<◌}
use native.Mathlib.Omega.{arith}
use native.Mathlib.Numerals.{add-one}
use mathlib.Core.Path.{◌≡◌, refl, sym, ap, ◌∙◌, subst}
use mathlib.Core.Logic.{◌≢◌}
use mathlib.Core.List.{List, [], ◌∷◌, ◌++◌}
use mathlib.Core.Bool.{Bool, true, false}
use lib.Dec.{eqb, ltb}
use lib.IntN.{ℤ}
use lib.ListN.{length, get_or, set, length-set, get_or-eq_default}
use lib.Seq.{get_or-set_same, get_or-set_other}
use borrow.Author.Tests.{eqb-true, eqb-false, ltb-true, ltb-false}
use Rattle.rules.specs.Forms.{Bond}
use Rattle.rules.specs.Record.{limit}
use Rattle.piece_labels.specs.Labels.{Labels, Numbered, Moved, Met, label_of, moved_to, lower_of, higher_of, own_label, own_atom, own_behind, labels_start, labels_next}
use Rattle.piece_labels.specs.Table.{atom_at, AtomIn, BondTable, bonds_in, bonds_from, bond_at, bonds_snoc, inside_in}

-- ---- Own numbers

pub record Numbering (n : ℕ) (ls : List ℕ) (i : ℕ) : Type 0 where
  pub within : i ≤ limit
  pub room : length ls ≡ limit
  pub own : (j : ℕ) → j < i → get_or ls j 0 ≡ own_label n j

pub numbering_start : (n : ℕ) (ls : List ℕ) → length ls ≡ limit → Numbering n ls 0
numbering_start n ls l = record { within = omega arith; room = l; own = λ j h. absurd (omega arith) }

pub numbering_next : (n : ℕ) (ls : List ℕ) (i v : ℕ) → Numbering n ls i → i < limit → v ≡ own_label n i → Numbering n (set ls i v) (i + 1)
numbering_next n ls i v g h e =
    record { within = omega arith; room = length-set ls i v ∙ g.room; own = λ j l. go j l (eqb j i) refl }
  where
    go : (j : ℕ) → j < i + 1 → (t : Bool) → eqb j i ≡ t → get_or (set ls i v) j 0 ≡ own_label n j
    go j l true q =
        let p = eqb-true j i q in
        subst (λ (k : ℕ). get_or (set ls i v) k 0 ≡ own_label n k) (sym p) (get_or-set_same ls i v 0 (omega (arith, g.room)) ∙ e)
    go j l false q =
        let ne : j ≢ i = eqb-false j i q in
        get_or-set_other ls i j v 0 ne ∙ g.own j (omega arith)

pub numbering_end : (n : ℕ) (ls : List ℕ) (i : ℕ) → Numbering n ls i → limit ≤ i → n ≤ limit → (length ls ≡ limit) × Numbered n ls
numbering_end n ls i g h l = (
  g.room,
  record {
    own = λ j b. g.own j (omega arith) ∙ sym (own_atom n j b);
    behind = λ j b. go j b (ltb j limit) refl;
  },
)
  where
    go : (j : ℕ) → n ≤ j → (t : Bool) → ltb j limit ≡ t → get_or ls j 0 ≡ 0
    go j b true q = let u = ltb-true j limit q in g.own j (omega arith) ∙ sym (own_behind n j b)
    go j b false q = get_or-eq_default ls 0 (omega (arith, g.room, ltb-false j limit q))

pub ruleset numbering_laws = (numbering_start, numbering_next, numbering_end)

-- ---- A label moved

pub record Moving (n high low : ℕ) (ls ms : List ℕ) (i : ℕ) : Type 0 where
  pub within : i ≤ n
  pub room : length ms ≡ limit
  pub moved : (j : ℕ) → j < i → get_or ms j 0 ≡ moved_to high low (get_or ls j 0)
  pub kept : (j : ℕ) → i ≤ j → get_or ms j 0 ≡ get_or ls j 0

pub moving_start : (n high low : ℕ) (ls : List ℕ) → length ls ≡ limit → Moving n high low ls ls 0
moving_start n high low ls l = record { within = omega arith; room = l; moved = λ j h. absurd (omega arith); kept = λ j h. refl }

pub moving_next : (n high low : ℕ) (ls ms : List ℕ) (i v : ℕ) → Moving n high low ls ms i → i < n → n ≤ limit → v ≡ moved_to high low (get_or ms i 0) →
    Moving n high low ls (set ms i v) (i + 1)
moving_next n high low ls ms i v g h few e =
    record {
      within = omega arith;
      room = length-set ms i v ∙ g.room;
      moved = λ j l. go j l (eqb j i) refl;
      kept = λ j l. let ne : j ≢ i = λ q. omega arith in get_or-set_other ms i j v 0 ne ∙ g.kept j (omega arith);
    }
  where
    go : (j : ℕ) → j < i + 1 → (t : Bool) → eqb j i ≡ t → get_or (set ms i v) j 0 ≡ moved_to high low (get_or ls j 0)
    go j l true q =
        let p = eqb-true j i q in
        subst (λ (k : ℕ). get_or (set ms i v) k 0 ≡ moved_to high low (get_or ls k 0)) (sym p)
        (get_or-set_same ms i v 0 (omega (arith, g.room)) ∙ e ∙ ap (moved_to high low) (g.kept i (omega arith)))
    go j l false q =
        let ne : j ≢ i = eqb-false j i q in
        get_or-set_other ms i j v 0 ne ∙ g.moved j (omega arith)

pub moving_end : (n high low : ℕ) (ls ms : List ℕ) (i : ℕ) → Moving n high low ls ms i → n ≤ i → (length ms ≡ limit) × Moved n high low ls ms
moving_end n high low ls ms i g h =
    (g.room, record { moved = λ j l. g.moved j (omega arith); kept = λ j l. g.kept j (omega (arith, g.within)) })

pub ruleset moving_laws = (moving_start, moving_next, moving_end)

pub moved_ends : (n first second : ℕ) (ls ms : List ℕ) (high low : ℕ) → high ≡ higher_of (label_of ls first) (label_of ls second) →
    low ≡ lower_of (label_of ls first) (label_of ls second) → (length ms ≡ limit) × Moved n high low ls ms →
    (length ms ≡ limit) × Met n first second ls ms
moved_ends n first second ls ms high low e f h =
    (h.0, subst (λ (x : ℕ). Moved n x (lower_of (label_of ls first) (label_of ls second)) ls ms) e (subst (λ (x : ℕ). Moved n high x ls ms) f h.1))

-- ---- Bonds joined

pub record Joining (n m : ℕ) (t : List ℤ) (ls : List ℕ) (k : ℕ) : Type 0 where
  pub within : k ≤ m
  pub table : BondTable n m t
  pub room : length ls ≡ limit
  pub labels : Labels n (bonds_in t k) ls

pub joining_start : (n m : ℕ) (t : List ℤ) (ls : List ℕ) → BondTable n m t → length ls ≡ limit → Numbered n ls → Joining n m t ls 0
unfolding bonds_from
joining_start n m t ls b l g = record { within = omega arith; table = b; room = l; labels = labels_start n ls g }

pub joining_next : (n m : ℕ) (t : List ℤ) (ls ms : List ℕ) (k : ℕ) → Joining n m t ls k → k < m → length ms ≡ limit →
    Met n (atom_at t (6 * k)) (atom_at t (6 * k + 1)) ls ms →
    Joining n m t ms (k + 1)
joining_next n m t ls ms k g h l v =
    let f = g.table.first k h in
    let s = g.table.second k h in
    let next : Labels n (bonds_in t k ++ (bond_at t k ∷ [])) ms =
    labels_next n (bonds_in t k) ls ms (bond_at t k) g.labels (inside_in n m t g.table k g.within) (f.low, f.high) (s.low, s.high) v in
    record {
      within = omega arith;
      table = g.table;
      room = l;
      labels =
          subst (λ (bs : List Bond). Labels n bs ms)
          (ap (λ (j : ℕ). bonds_in t k ++ (bond_at t j ∷ [])) (omega arith) ∙ sym (bonds_snoc t 0 k) ∙ ap (bonds_from t 0) (sym (add-one k))) next;
    }

module _ (n m : ℕ) (t : List ℤ) (ls : List ℕ) (k : ℕ) (g : Joining n m t ls k) (h : k < m) where
  pub first_asks : (n ≤ limit) × (6 * k < length t) × AtomIn n t (6 * k)
  first_asks = (g.table.few, omega (arith, g.table.room), g.table.first k h)

  pub second_asks : (n ≤ limit) × (6 * k + 1 < length t) × AtomIn n t (6 * k + 1)
  second_asks = (g.table.few, omega (arith, g.table.room), g.table.second k h)

  pub join_asks : (x y : ℕ) → x ≡ atom_at t (6 * k) → y ≡ atom_at t (6 * k + 1) → (n ≤ limit) × (length ls ≡ limit) × (1 ≤ x) × (x ≤ n) × (1 ≤ y) × (y ≤ n)
  join_asks x y e f =
      let a = g.table.first k h in
      let b = g.table.second k h in
      (g.table.few, g.room, omega (arith, e, a.low), omega (arith, e, a.high), omega (arith, f, b.low), omega (arith, f, b.high))

  pub joining_on : (x y : ℕ) (ms : List ℕ) → x ≡ atom_at t (6 * k) → y ≡ atom_at t (6 * k + 1) →
      (length ms ≡ limit) × Met n x y ls ms → Joining n m t ms (k + 1)
  joining_on x y ms e f v =
      joining_next n m t ls ms k g h v.0
      (subst (λ (a : ℕ). Met n a (atom_at t (6 * k + 1)) ls ms) e
      (subst (λ (b : ℕ). Met n x b ls ms) f v.1))

pub joining_end : (n m : ℕ) (t : List ℤ) (ls : List ℕ) (k : ℕ) → Joining n m t ls k → m ≤ k → (length ls ≡ limit) × Labels n (bonds_in t m) ls
joining_end n m t ls k g h = let e : k ≡ m = omega (arith, g.within) in (g.room, subst (λ (j : ℕ). Labels n (bonds_in t j) ls) e g.labels)
