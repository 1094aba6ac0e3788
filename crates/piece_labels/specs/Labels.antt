-- Labels of atoms: a bond makes the lower label of its ends the label of both their pieces.
use Rattle.std.specs.Prelude.{ℕ, ◌+◌, ◌-◌, ◌≤◌, ◌<◌, ◌≡◌, refl, ◌⊎◌, List, [], ◌∷◌, ◌++◌, Bool, true, false, cond, eqb, ltb, get_or}
use Rattle.std.proofs.Common.{arith, sym, ap, ◌∙◌, subst, inl, inr, eq-eqb, ne_eqb, eqb-true, lt-ltb, le-ltb, ltb-true, ltb-false}
use Rattle.std.proofs.lemmas.Bool.{eqb-false}
use Rattle.rules.specs.Forms.{Bond}
use Rattle.piece_rules.specs.Pieces.{Bonded, along, against, later, Chain, here, step, Lowest, Inside}
use Rattle.piece_rules.specs.Chains.{chain_on, chain_back, chain_more, bonded_before, bonded_last, bonded_either, inside_ends}

-- the label of atom a
abbrev pub label_of : List ℕ → ℕ → ℕ
label_of ls a = get_or ls (a - 1) 0

-- every label is an atom that a chain reaches, none above the atom itself; bonds join equal labels
pub record Labels (n : ℕ) (bs : List Bond) (ls : List ℕ) : Type 0 where
  pub chain : (i : ℕ) → i < n → Chain bs (i + 1) (get_or ls i 0)
  pub below : (i : ℕ) → i < n → get_or ls i 0 ≤ i + 1
  pub same : (x y : ℕ) → Bonded bs x y → label_of ls x ≡ label_of ls y
  pub behind : (i : ℕ) → n ≤ i → get_or ls i 0 ≡ 0

-- without bonds: its own number, and nothing behind the last atom
unfoldable pub own_label : ℕ → ℕ → ℕ
own_label n i = cond (ltb i n) (i + 1) 0

pub own_atom : (n i : ℕ) → i < n → i + 1 ≡ own_label n i
unfolding own_label
own_atom n i h = rw (lt-ltb i n h)

pub own_behind : (n i : ℕ) → n ≤ i → 0 ≡ own_label n i
unfolding own_label
own_behind n i h = rw (le-ltb i n h)

pub record Numbered (n : ℕ) (ls : List ℕ) : Type 0 where
  pub own : (i : ℕ) → i < n → get_or ls i 0 ≡ i + 1
  pub behind : (i : ℕ) → n ≤ i → get_or ls i 0 ≡ 0

-- without bonds
pub labels_start : (n : ℕ) (ls : List ℕ) → Numbered n ls → Labels n [] ls
labels_start n ls g =
    record {
      chain = λ i h. here (sym (g.own i h));
      below = λ i h. omega (arith, g.own i h);
      same = λ x y h. elim h [ ];
      behind = g.behind;
    }

-- ---- The labels are the lowest atoms

module _ (n : ℕ) (bs : List Bond) (ls : List ℕ) (g : Labels n bs ls) (all : Inside n bs) where
  -- along a chain labels stay, and atoms stay atoms
  chain_label : {a c : ℕ} → Chain bs a c → 1 ≤ a → a ≤ n → (label_of ls a ≡ label_of ls c) × (1 ≤ c) × (c ≤ n)
  chain_label {a} {c} (here e) l h = (ap (label_of ls) e, omega arith, omega arith)
  chain_label {a} {c} (step {b = b} k r) l h =
      let ends = inside_ends n bs all k in
      let rest = chain_label r ends.2 ends.3 in
      (g.same a b k ∙ rest.0, rest.1, rest.2)

  -- a label is an atom that has its own label
  pub label_own : (i : ℕ) → i < n → (1 ≤ get_or ls i 0) × (get_or ls i 0 ≤ n) × (get_or ls (get_or ls i 0 - 1) 0 ≡ get_or ls i 0)
  label_own i h =
      let r = chain_label (g.chain i h) (omega arith) (omega arith) in
      let e : i + 1 - 1 ≡ i = omega arith in
      (r.1, r.2, sym r.0 ∙ ap (λ (j : ℕ). get_or ls j 0) e)

  pub labels_lowest : (i : ℕ) → i < n → Lowest bs (i + 1) (get_or ls i 0)
  labels_lowest i h =
      record {
        chain = g.chain i h;
        least = λ c q.
            let r = chain_label q (omega arith) (omega arith) in
            let e : i + 1 - 1 ≡ i = omega arith in
            let s : get_or ls i 0 ≡ label_of ls c = ap (λ (j : ℕ). get_or ls j 0) (sym e) ∙ r.0 in
            let b = g.below (c - 1) (omega (arith, r.1, r.2)) in
            omega (arith, r.1);
      }

-- ---- One bond more

unfoldable pub moved_to : ℕ → ℕ → ℕ → ℕ
moved_to high low l = cond (eqb l high) low l

unfoldable pub lower_of : ℕ → ℕ → ℕ
lower_of a b = cond (ltb a b) a b

unfoldable pub higher_of : ℕ → ℕ → ℕ
higher_of a b = cond (ltb a b) b a

-- every label `high` has become `low`
pub record Moved (n high low : ℕ) (ls ms : List ℕ) : Type 0 where
  pub moved : (i : ℕ) → i < n → get_or ms i 0 ≡ moved_to high low (get_or ls i 0)
  pub kept : (i : ℕ) → n ≤ i → get_or ms i 0 ≡ get_or ls i 0

-- the labels of both ends have become the lower one
abbrev pub Met : ℕ → ℕ → ℕ → List ℕ → List ℕ → Type 0
Met n first second ls ms =
    Moved n (higher_of (label_of ls first) (label_of ls second)) (lower_of (label_of ls first) (label_of ls second)) ls ms

pub moved_hit : (high low l : ℕ) → l ≡ high → low ≡ moved_to high low l
unfolding moved_to
moved_hit high low l e = rw (eq-eqb l high e)

pub moved_miss : (high low l : ℕ) → (l ≡ high → ⊥) → l ≡ moved_to high low l
unfolding moved_to
moved_miss high low l n = rw (ne_eqb l high n)

pub lower_first : (a b : ℕ) → a < b → a ≡ lower_of a b
unfolding lower_of
lower_first a b h = rw (lt-ltb a b h)

pub lower_second : (a b : ℕ) → b ≤ a → b ≡ lower_of a b
unfolding lower_of
lower_second a b h = rw (le-ltb a b h)

pub higher_second : (a b : ℕ) → a < b → b ≡ higher_of a b
unfolding higher_of
higher_second a b h = rw (lt-ltb a b h)

pub higher_first : (a b : ℕ) → b ≤ a → a ≡ higher_of a b
unfolding higher_of
higher_first a b h = rw (le-ltb a b h)

pub ruleset label_tests = (own_atom, own_behind, moved_hit, moved_miss, lower_first, lower_second, higher_second, higher_first)

-- the two cases of a pair of labels
data Either (a b : ℕ) : Type 0 where
  first_low : a ≤ b → lower_of a b ≡ a → higher_of a b ≡ b → Either a b
  second_low : b ≤ a → lower_of a b ≡ b → higher_of a b ≡ a → Either a b

either : (a b : ℕ) → Either a b
unfolding lower_of higher_of
either a b = go (ltb a b) refl
  where
    go : (t : Bool) → ltb a b ≡ t → Either a b
    go true e = first_low (omega (arith, ltb-true a b e)) (rw e) (rw e)
    go false e = second_low (ltb-false a b e) (rw e) (rw e)

-- both ends' labels become the lower one
meets : (a b : ℕ) → (moved_to (higher_of a b) (lower_of a b) a ≡ lower_of a b) × (moved_to (higher_of a b) (lower_of a b) b ≡ lower_of a b)
meets a b = go (either a b)
  where
    low_moves : (h l : ℕ) → moved_to h l l ≡ l
    low_moves h l = split (eqb l h) refl
      where
        split : (t : Bool) → eqb l h ≡ t → moved_to h l l ≡ l
        split true e = sym (moved_hit h l l (eqb-true l h e))
        split false e = sym (moved_miss h l l (eqb-false l h e))

    go : Either a b → (moved_to (higher_of a b) (lower_of a b) a ≡ lower_of a b) × (moved_to (higher_of a b) (lower_of a b) b ≡ lower_of a b)
    go (first_low h e f) = (rw (e, f) (low_moves b a), rw (e, f) (sym (moved_hit b a b refl)))
    go (second_low h e f) = (rw (e, f) (sym (moved_hit a b a refl)), rw (e, f) (low_moves a b))

-- a label that moves goes down
falls : (a b l : ℕ) → moved_to (higher_of a b) (lower_of a b) l ≤ l
falls a b l = go (eqb l (higher_of a b)) refl (either a b)
  where
    go : (t : Bool) → eqb l (higher_of a b) ≡ t → Either a b → moved_to (higher_of a b) (lower_of a b) l ≤ l
    go true e (first_low h p q) = omega (arith, moved_hit (higher_of a b) (lower_of a b) l (eqb-true l (higher_of a b) e), eqb-true l (higher_of a b) e)
    go true e (second_low h p q) = omega (arith, moved_hit (higher_of a b) (lower_of a b) l (eqb-true l (higher_of a b) e), eqb-true l (higher_of a b) e)
    go false e w = omega (arith, moved_miss (higher_of a b) (lower_of a b) l (eqb-false l (higher_of a b) e))

module _ (n : ℕ) (bs : List Bond) (ls ms : List ℕ) (b : Bond) (g : Labels n bs ls) (all : Inside n bs)
    (first_in : (1 ≤ b.first) × (b.first ≤ n)) (second_in : (1 ≤ b.second) × (b.second ≤ n))
    (m : Met n b.first b.second ls ms) where
  abbrev cs : List Bond
  cs = bs ++ (b ∷ [])

  abbrev x : ℕ
  x = label_of ls b.first

  abbrev y : ℕ
  y = label_of ls b.second

  old : {a c : ℕ} → Chain bs a c → Chain cs a c
  old q = chain_more (λ u v h. bonded_before bs (b ∷ []) h) q

  -- an atom and its label
  to_label : (a : ℕ) → 1 ≤ a → a ≤ n → Chain cs a (label_of ls a)
  to_label a l h =
      let e : a - 1 + 1 ≡ a = omega arith in
      subst (λ (z : ℕ). Chain cs z (label_of ls a)) e (old (g.chain (a - 1) (omega arith)))

  across : Chain cs x y
  across =
      chain_on (chain_back (to_label b.first first_in.0 first_in.1))
      (step (bonded_last bs (b ∷ []) (along refl refl)) (to_label b.second second_in.0 second_in.1))

  high_low : Chain cs (higher_of x y) (lower_of x y)
  high_low = go (either x y)
    where
      go : Either x y → Chain cs (higher_of x y) (lower_of x y)
      go (first_low h e f) = rw (e, f) (chain_back across)
      go (second_low h e f) = rw (e, f) across

  new_chain : (i : ℕ) → i < n → Chain cs (i + 1) (get_or ms i 0)
  new_chain i h = subst (Chain cs (i + 1)) (sym (m.moved i h)) (go (eqb (get_or ls i 0) (higher_of x y)) refl)
    where
      go : (t : Bool) → eqb (get_or ls i 0) (higher_of x y) ≡ t → Chain cs (i + 1) (moved_to (higher_of x y) (lower_of x y) (get_or ls i 0))
      go true e =
          let q = eqb-true (get_or ls i 0) (higher_of x y) e in
          subst (Chain cs (i + 1)) (moved_hit (higher_of x y) (lower_of x y) (get_or ls i 0) q) (chain_on (subst (Chain cs (i + 1)) q (old (g.chain i h))) high_low)
      go false e =
          subst (Chain cs (i + 1)) (moved_miss (higher_of x y) (lower_of x y) (get_or ls i 0) (eqb-false (get_or ls i 0) (higher_of x y) e)) (old (g.chain i h))

  -- the label of an atom now
  now_is : (a : ℕ) → 1 ≤ a → a ≤ n → label_of ms a ≡ moved_to (higher_of x y) (lower_of x y) (label_of ls a)
  now_is a l h = m.moved (a - 1) (omega arith)

  first_now : label_of ms b.first ≡ lower_of x y
  first_now = now_is b.first first_in.0 first_in.1 ∙ (meets x y).0

  second_now : label_of ms b.second ≡ lower_of x y
  second_now = now_is b.second second_in.0 second_in.1 ∙ (meets x y).1

  new_same : (u v : ℕ) → Bonded cs u v → label_of ms u ≡ label_of ms v
  new_same u v h = go (bonded_either bs (b ∷ []) h)
    where
      go : Bonded bs u v ⊎ Bonded (b ∷ []) u v → label_of ms u ≡ label_of ms v
      go (inl k) =
          let e = inside_ends n bs all k in
          now_is u e.0 e.1 ∙ ap (moved_to (higher_of x y) (lower_of x y)) (g.same u v k) ∙ sym (now_is v e.2 e.3)
      go (inr (along e f)) = ap (label_of ms) (sym e) ∙ first_now ∙ sym second_now ∙ ap (label_of ms) f
      go (inr (against e f)) = ap (label_of ms) (sym f) ∙ second_now ∙ sym first_now ∙ ap (label_of ms) e
      go (inr (later k)) = elim k [ ]

  pub labels_next : Labels n cs ms
  labels_next =
      record {
        chain = new_chain;
        below = λ i h. omega (arith, m.moved i h, falls x y (get_or ls i 0), g.below i h);
        same = new_same;
        behind = λ i h. m.kept i h ∙ g.behind i h;
      }
