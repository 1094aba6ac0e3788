-- The table shows the property lines read so far, at the start and after each line; so it tells the atoms that lines have listed.
use Rattle.std.specs.Prelude.{ℕ, ◌+◌, ◌*◌, ◌≤◌, ◌<◌, ◌≡◌, ◌≢◌, Bool, not, get_or, set}
use Rattle.std.proofs.Common.{arith, sym, ◌∙◌, length-set}
use Rattle.std.proofs.Math.Path.{refl, ap}
use mathlib.Core.List.{List, [], ◌∷◌, ◌++◌, map, append-nil}
use Rattle.std.proofs.Math.Bool.{true, false, cond}
use Rattle.std.proofs.Math.Dec.{eqb}
use Rattle.std.proofs.Math.ListN.{length}
use Rattle.std.proofs.Math.Seq.{get_or-set_same, get_or-set_other}
use borrow.Author.Tests.{eq-eqb, ne_eqb, eqb-true, eqb-false}
use Rattle.text.specs.Text.{Line}
use Rattle.text.specs.Columns.{Within}
use Rattle.text.specs.Laws.{true_false, false_true, never_both}
use Rattle.rules.specs.Forms.{Kind, CHG, RAD, ISO, same_kind, Entry, Property}
use Rattle.rules.specs.Record.{listed, limit}
use Rattle.rules.specs.Entries.{listed_append, atoms_of, kinds_same}
use Rattle.judge_line.specs.Got.{got}
use Rattle.judge_line.specs.Field.{elem}
use Rattle.judge_line.specs.Judge.{property_of, property}
use Rattle.judge_line.specs.Agree.{NewEntries}
use Rattle.judge_line.proofs.Agree.{property_agrees}
use Rattle.line_property.specs.Listed.{places, slot, noted, enter, emptied, seen_of, noted_in, Shows}
use Rattle.line_property.specs.Emptied.{emptied_size, emptied_at}
use Rattle.line_property.specs.Proper.{ProperEntries, ProperLine, Proper, proper_more, listed_proper, line_proper}
use Rattle.line_property.specs.Seen.{SameSeen, property_same, slot_small, slot_apart, listed_elem, noted_some}

-- ---- no line yet

pub shows_none : (n : ℕ) (t : List ℕ) → length t ≡ 3 * places → Shows n (emptied (n + 1) t) []
unfolding noted_in listed
shows_none n t h = record { size = emptied_size (n + 1) t ∙ h; each = λ kind atom k. emptied_at (n + 1) t kind atom (omega arith) }

-- ---- what entries keep for an atom

-- an atom is among the entries where what they keep for it is not 0
noted_elem : (n a : ℕ) (es : List Entry) → ProperEntries n es → elem a (atoms_of es) ≡ not (eqb (noted_in es a) 0)
unfolding ProperEntries elem noted_in
noted_elem n a [] h = refl
noted_elem n a (e ∷ es) h = go (eqb a e.atom) refl (noted_elem n a es h.1)
  where
    go : (t : Bool) → eqb a e.atom ≡ t → elem a (atoms_of es) ≡ not (eqb (noted_in es a) 0) →
        cond t true (elem a (atoms_of es)) ≡ not (eqb (cond (eqb e.atom a) (noted e.number) (noted_in es a)) 0)
    go true q r =
        rw (eq-eqb e.atom a (sym (eqb-true a e.atom q)), ne_eqb (noted e.number) 0 (λ (z : noted e.number ≡ 0). omega (arith, noted_some 999 e.number h.0.range)))
    go false q r = rw (ne_eqb e.atom a (λ z. eqb-false a e.atom q (sym z))) r

noted_none : (a : ℕ) (es : List Entry) → elem a (atoms_of es) ≡ false → noted_in es a ≡ 0
unfolding elem noted_in
noted_none a [] h = refl
noted_none a (e ∷ es) h = go (eqb a e.atom) refl h (noted_none a es)
  where
    go : (t : Bool) → eqb a e.atom ≡ t → cond t true (elem a (atoms_of es)) ≡ false → (elem a (atoms_of es) ≡ false → noted_in es a ≡ 0) →
        cond (eqb e.atom a) (noted e.number) (noted_in es a) ≡ 0
    go true q k r = true_false k
    go false q k r = rw (ne_eqb e.atom a (λ z. eqb-false a e.atom q (sym z))) (r k)

noted_both : (a : ℕ) (xs es : List Entry) → noted_in (xs ++ es) a ≡ cond (elem a (atoms_of xs)) (noted_in xs a) (noted_in es a)
unfolding elem noted_in
noted_both a [] es = refl
noted_both a (x ∷ xs) es = go (eqb a x.atom) refl (noted_both a xs es)
  where
    go : (t : Bool) → eqb a x.atom ≡ t → noted_in (xs ++ es) a ≡ cond (elem a (atoms_of xs)) (noted_in xs a) (noted_in es a) →
        cond (eqb x.atom a) (noted x.number) (noted_in (xs ++ es) a) ≡
        cond (cond t true (elem a (atoms_of xs))) (cond (eqb x.atom a) (noted x.number) (noted_in xs a)) (noted_in es a)
    go true q r = rw (eq-eqb x.atom a (sym (eqb-true a x.atom q)))
    go false q r = rw (ne_eqb x.atom a (λ z. eqb-false a x.atom q (sym z))) r

-- an atom seen is not among new entries
new_apart : (a : ℕ) (seen : List ℕ) (es : List Entry) → NewEntries seen es → elem a seen ≡ true → elem a (atoms_of es) ≡ false
unfolding NewEntries elem
new_apart a seen [] h s = refl
new_apart a seen (e ∷ es) h s = go (eqb a e.atom) refl (new_apart a (e.atom ∷ seen) es h.1)
  where
    go : (t : Bool) → eqb a e.atom ≡ t → (cond (eqb a e.atom) true (elem a seen) ≡ true → elem a (atoms_of es) ≡ false) → cond t true (elem a (atoms_of es)) ≡ false
    go true q r = never_both (elem a seen) s (rw (eqb-true a e.atom q) h.0)
    go false q r = r (rw q s)

proper_low : (n a : ℕ) (es : List Entry) → ProperEntries n es → elem a (atoms_of es) ≡ true → 1 ≤ a
unfolding ProperEntries elem
proper_low n a [] h s = false_true s
proper_low n a (e ∷ es) h s = go (eqb a e.atom) refl s (proper_low n a es h.1)
  where
    go : (t : Bool) → eqb a e.atom ≡ t → cond t true (elem a (atoms_of es)) ≡ true → (elem a (atoms_of es) ≡ true → 1 ≤ a) → 1 ≤ a
    go true q k r = rw (eqb-true a e.atom q) h.0.low
    go false q k r = r k

-- ---- the atoms that lines have listed

module _ (n : ℕ) (t : List ℕ) (ps : List Property) (shows : Shows n t ps) (proper : Proper n ps) where
  shown_seen : (kind : Kind) → SameSeen n (seen_of n t kind) (atoms_of (listed kind ps))
  shown_seen kind a low high =
      listed_elem kind t n a low high
      ∙ ap (λ (k : ℕ). not (eqb k 0)) (shows.each kind a high)
      ∙ sym (noted_elem n a (listed kind ps) (listed_proper n kind ps proper))

  -- a line is judged by the table as by the lines before it
  pub seen_same : (l : Line) → property_of n (seen_of n t) l ≡ property_of n (λ kind. map (λ e. e.atom) (listed kind ps)) l
  seen_same l = property_same n l (seen_of n t) (λ kind. atoms_of (listed kind ps)) shown_seen

-- ---- one line more

enter_length : (kind : Kind) (t : List ℕ) (es : List Entry) → length (enter kind t es) ≡ length t
unfolding enter
enter_length kind t [] = refl
enter_length kind t (e ∷ es) = enter_length kind (set t (slot kind e.atom) (noted e.number)) es ∙ length-set t (slot kind e.atom) (noted e.number)

-- places of two kinds
kinds_apart : (j k : Kind) (a b : ℕ) → same_kind j k ≡ false → a ≤ limit → b ≤ limit → slot j a ≢ slot k b
kinds_apart CHG CHG a b h p q e = true_false h
kinds_apart CHG RAD a b h p q e = omega arith
kinds_apart CHG ISO a b h p q e = omega arith
kinds_apart RAD CHG a b h p q e = omega arith
kinds_apart RAD RAD a b h p q e = true_false h
kinds_apart RAD ISO a b h p q e = omega arith
kinds_apart ISO CHG a b h p q e = omega arith
kinds_apart ISO RAD a b h p q e = omega arith
kinds_apart ISO ISO a b h p q e = true_false h

module _ (n a : ℕ) (most : n ≤ limit) (high : a ≤ n) where
  enter_other : (j k : Kind) → same_kind j k ≡ false → (t : List ℕ) (es : List Entry) → ProperEntries n es → get_or (enter k t es) (slot j a) 0 ≡ get_or t (slot j a) 0
  unfolding enter ProperEntries
  enter_other j k d t [] h = refl
  enter_other j k d t (e ∷ es) h =
      let top = h.0.high in
      enter_other j k d (set t (slot k e.atom) (noted e.number)) es h.1
      ∙ get_or-set_other t (slot k e.atom) (slot j a) (noted e.number) 0 (kinds_apart j k a e.atom d (omega arith) (omega arith))

  enter_at : (kind : Kind) (seen : List ℕ) (t : List ℕ) (es : List Entry) → length t ≡ 3 * places → ProperEntries n es → NewEntries seen es →
      get_or (enter kind t es) (slot kind a) 0 ≡ cond (elem a (atoms_of es)) (noted_in es a) (get_or t (slot kind a) 0)
  unfolding enter ProperEntries NewEntries elem noted_in
  enter_at kind seen t [] size h new = refl
  enter_at kind seen t (e ∷ es) size h new =
      enter_at kind (e.atom ∷ seen) (set t (slot kind e.atom) (noted e.number)) es (length-set t (slot kind e.atom) (noted e.number) ∙ size) h.1 new.1
      ∙ go (eqb a e.atom) refl
    where
      go : (b : Bool) → eqb a e.atom ≡ b →
          cond (elem a (atoms_of es)) (noted_in es a) (get_or (set t (slot kind e.atom) (noted e.number)) (slot kind a) 0) ≡
          cond (cond b true (elem a (atoms_of es))) (cond (eqb e.atom a) (noted e.number) (noted_in es a)) (get_or t (slot kind a) 0)
      go true q =
          let same = eqb-true a e.atom q in
          let top = h.0.high in
          let small : slot kind e.atom < length t = rw size (slot_small kind e.atom (omega arith)) in
          let last : elem a (atoms_of es) ≡ false = new_apart a (e.atom ∷ seen) es new.1 (rw q) in
          rw (last, eq-eqb e.atom a (sym same), same, get_or-set_same t (slot kind e.atom) (noted e.number) 0 small)
      go false q =
          rw (
            ne_eqb e.atom a (λ z. eqb-false a e.atom q (sym z)),
            get_or-set_other t (slot kind e.atom) (slot kind a) (noted e.number) 0 (slot_apart kind a e.atom (eqb-false a e.atom q)),
          )

  -- the entries of a line, after those of its kind before it
  enter_after : (kind : Kind) (t : List ℕ) (xs es : List Entry) → length t ≡ 3 * places → ProperEntries n es → NewEntries (seen_of n t kind) es →
      get_or t (slot kind a) 0 ≡ noted_in xs a → (1 ≤ a → elem a (seen_of n t kind) ≡ elem a (atoms_of xs)) → get_or (enter kind t es) (slot kind a) 0 ≡ noted_in (xs ++ es) a
  enter_after kind t xs es size h new shown seen =
      enter_at kind (seen_of n t kind) t es size h new ∙ rw shown (go (elem a (atoms_of es)) refl (elem a (atoms_of xs)) refl) ∙ sym (noted_both a xs es)
    where
      go : (b : Bool) → elem a (atoms_of es) ≡ b → (d : Bool) → elem a (atoms_of xs) ≡ d → cond b (noted_in es a) (noted_in xs a) ≡ cond d (noted_in xs a) (noted_in es a)
      go true q true r = never_both (elem a (atoms_of es)) q (new_apart a (seen_of n t kind) es new (seen (proper_low n a es h q) ∙ r))
      go true q false r = refl
      go false q true r = refl
      go false q false r = noted_none a xs r ∙ sym (noted_none a es q)

module _ (n : ℕ) (t : List ℕ) (ps : List Property) (p : Property) (most : n ≤ limit) (shows : Shows n t ps) (proper : Proper n ps) where
  one_more_lem : (kind : Kind) → listed kind (ps ++ (p ∷ [])) ≡ listed kind ps ++ cond (same_kind kind p.kind) p.entries []
  unfolding listed
  one_more_lem kind = listed_append kind ps (p ∷ []) ∙ ap (λ (x : List Entry). listed kind ps ++ x) (append-nil (cond (same_kind kind p.kind) p.entries []))

  pub shows_more : ProperEntries n p.entries → NewEntries (seen_of n t p.kind) p.entries → Shows n (enter p.kind t p.entries) (ps ++ (p ∷ []))
  shows_more h new =
      record {
        size = enter_length p.kind t p.entries ∙ shows.size;
        each = λ kind a high. go kind a high (same_kind kind p.kind) refl ∙ ap (λ (es : List Entry). noted_in es a) (sym (one_more_lem kind));
      }
    where
      go : (kind : Kind) (a : ℕ) → a ≤ n → (b : Bool) → same_kind kind p.kind ≡ b →
          get_or (enter p.kind t p.entries) (slot kind a) 0 ≡ noted_in (listed kind ps ++ cond (same_kind kind p.kind) p.entries []) a
      go kind a high true q =
          rw (q, kinds_same kind p.kind q)
          (enter_after n a most high p.kind t (listed p.kind ps) p.entries shows.size h new (shows.each p.kind a high)
          (λ low. shown_seen n t ps shows proper p.kind a low high))
      go kind a high false q = rw (q, append-nil) (enter_other n a most high kind p.kind q t p.entries h ∙ shows.each kind a high)

  -- the same for a line that is judged to list p
  module _ (l : Line) (w : Within 80 l) (e : property_of n (seen_of n t) l ≡ got (property p)) where
    line_lists : ProperLine n p × NewEntries (seen_of n t p.kind) p.entries
    line_lists = let h = (property_agrees n (seen_of n t) l p w).0 e in (line_proper n l p h.0, h.1)

    pub shows_line : Shows n (enter p.kind t p.entries) (ps ++ (p ∷ []))
    shows_line = shows_more line_lists.0.each line_lists.1

    pub proper_line : Proper n (ps ++ (p ∷ []))
    proper_line = proper_more n ps p proper line_lists.0
