-- The list with the change that is decided is the one that the flat layer leaves, and the rules say.
use Rattle.std.specs.Prelude.{ℕ, suc, ◌+◌, ◌-◌, ◌≤◌, ◌<◌, ◌≡◌, refl, List, [], ◌∷◌, Bool, true, false, cond, ltb, leb, length, get_or, set, take, drop}
use Rattle.std.proofs.Common.{arith, sym, ap, ◌∙◌, subst, length-set, length-append, length-drop, length-take-le, get_or-take, le-ltb, lt-ltb, ltb-true, leb-true, leb-false}
use Rattle.std.proofs.lemmas.List.{set-get_or}
use Rattle.text.specs.Text.{Bytes}
use Rattle.tally_rules.specs.declared.Order.{Order}
use Rattle.tally_rules.specs.declared.Tally.{Tally}
use Rattle.tally_rules.specs.Tally.{most_suppliers, most_records, order, name_of, fresh, one_more, added}
use Rattle.tally_flat.specs.declared.Slot.{Slot}
use Rattle.tally_flat.specs.declared.Added.{Added}
use Rattle.tally_flat.specs.Flat.{slot_by, slot_from, now_of, laid, laid_by}
use Rattle.tally_flat.specs.Slots.{no_tally, names_of, NewAt, slot_here, slot_new}
use Rattle.tally_list.specs.declared.Change.{Change}
use Rattle.tally_list.specs.Tallies.{place_from, shifted}
use Rattle.tally_list.specs.Same.{place_of}
use Rattle.tally_list.specs.Adding.{one_more_lem, new_one, list_place}
use Rattle.tally_list.specs.Change.{same_as, within, is_here, change_of, Ready, ListReady}
use Rattle.tally_list.specs.Changing.{within_in, not_used, here_told, change_here, change_full, change_new}

-- ---- The tally at the place found has the name, or another one

slots : {X : Type 0} {i j : ℕ} → Slot.Here i ≡ Slot.New j → X
slots h = absurd (let z : ◌≡◌ {A = ℕ} 0 1 = cc in omega arith)

abbrev Same : Bytes → List Tally → ℕ → Bool
Same n ts j = same_as (order (name_of (get_or ts j no_tally)) n)

here_same : (n : Bytes) (i p : ℕ) (ts : List Tally) → slot_from n i (names_of ts) ≡ Slot.Here p → (j : ℕ) → i + j ≡ p → Same n ts j ≡ true
unfolding slot_from
here_same n i p [] h j e = slots (sym h)
here_same n i p (t ∷ ts) h j e = go (order (name_of t) n) refl h (here_same n (i + 1) p ts)
  where
    go : (o : Order) → order (name_of t) n ≡ o → slot_by o i (slot_from n (i + 1) (names_of ts)) ≡ Slot.Here p →
        (slot_from n (i + 1) (names_of ts) ≡ Slot.Here p → (k : ℕ) → i + 1 + k ≡ p → Same n ts k ≡ true) → Same n (t ∷ ts) j ≡ true
    go Order.Before eo q again =
        let a = slot_here n (i + 1) p ts q in
        let z : suc a.j ≡ j = omega (arith, a.place, e) in
        subst (λ (k : ℕ). Same n (t ∷ ts) k ≡ true) z (again q a.j (sym a.place))
    go Order.Same eo q again =
        let y : i ≡ p = cc in
        let z : 0 ≡ j = omega (arith, e, y) in
        subst (λ (k : ℕ). Same n (t ∷ ts) k ≡ true) z (ap same_as eo)
    go Order.After eo q again = slots (sym q)

new_other : (n : Bytes) (i p : ℕ) (ts : List Tally) → slot_from n i (names_of ts) ≡ Slot.New p → (j : ℕ) → i + j ≡ p → j < length ts → Same n ts j ≡ false
unfolding slot_from
new_other n i p [] h j e l = absurd (omega arith)
new_other n i p (t ∷ ts) h j e l = go (order (name_of t) n) refl h (new_other n (i + 1) p ts)
  where
    go : (o : Order) → order (name_of t) n ≡ o → slot_by o i (slot_from n (i + 1) (names_of ts)) ≡ Slot.New p →
        (slot_from n (i + 1) (names_of ts) ≡ Slot.New p → (k : ℕ) → i + 1 + k ≡ p → k < length ts → Same n ts k ≡ false) → Same n (t ∷ ts) j ≡ false
    go Order.Before eo q again =
        let a = slot_new n (i + 1) p ts q in
        let z : suc a.j ≡ j = omega (arith, a.place, e) in
        subst (λ (k : ℕ). Same n (t ∷ ts) k ≡ false) z (again q a.j (sym a.place) (omega (arith, z, l)))
    go Order.Same eo q again = slots q
    go Order.After eo q again =
        let y : i ≡ p = cc in
        let z : 0 ≡ j = omega (arith, e, y) in
        subst (λ (k : ℕ). Same n (t ∷ ts) k ≡ false) z (ap same_as eo)

none_shifted : (k p : ℕ) (ys : List Tally) → k ≡ 0 → shifted k p ys ≡ ys
unfolding shifted
none_shifted k p ys e = rw e

-- ---- What the change leaves

pub within_size : (at : ℕ) → within at < most_suppliers
unfolding within
within_size at = go (ltb at most_suppliers) refl
  where
    go : (b : Bool) → ltb at most_suppliers ≡ b → cond b at 63 < most_suppliers
    go true e = ltb-true at most_suppliers e
    go false e = omega arith

module _ (ys : List Tally) (used : ℕ) (n : Bytes) (g : ListReady ys used n) (at : ℕ) (found : at ≡ place_from n 0 (take used ys)) where
  abbrev ts : List Tally
  ts = take used ys

  few : used ≤ length ys
  few = omega (arith, g.few, g.room)

  size : length ts ≡ used
  size = length-take-le used ys few

  -- a change c at place k
  pub record Told (k : ℕ) (c : Change) : Type 0 where
    pub low : k ≤ c.end
    pub high : c.end < length ys
    pub now : c.now ≡ now_of (added n ts)
    pub list : set (shifted (c.end - k) k ys) k c.tally ≡ laid_by (added n ts) ys

  abbrev Right : ℕ → Type 0
  Right k = Told k (change_of (get_or ys k no_tally) at used n)

  abbrev Many : Bool → Added
  Many b = cond b Added.Full (Added.Now (length (added n ts)))

  abbrev Laid : Bool → List Tally
  Laid b = cond b ys (laid (added n ts) ys)

  inside : (k : ℕ) → within at ≡ k → Right k → Right (within at)
  inside k e r = subst Right (sym e) r

  told_here : (p : ℕ) → slot_from n 0 (names_of ts) ≡ Slot.Here p → Right (within at)
  told_here p h =
      let a : at ≡ p = found ∙ list_place n used ys few ∙ ap place_of h in
      let o = one_more_lem n used ys few p h in
      let l : at < used = omega (arith, a, o.0) in
      let t = get_or ys at no_tally in
      let s : same_as (order (name_of t) n) ≡ true = sym (ap (λ (x : Tally). same_as (order (name_of x) n)) (get_or-take used ys at no_tally l)) ∙ here_same n 0 p ts h at (omega (arith, a)) in
      let is : true ≡ is_here t at used n = sym s ∙ here_told t at used n l (order (name_of t) n) refl (same_as (order (name_of t) n)) refl in
      let c = change_here t at used n true is (one_more t) refl refl in
      let f = slot_here n 0 p ts h in
      let z : length (added n ts) ≡ used = ap length f.is ∙ length-set ts f.j (one_more (get_or ts f.j no_tally)) ∙ size in
      let m : ltb most_suppliers (length (added n ts)) ≡ false = le-ltb most_suppliers (length (added n ts)) (omega (arith, z, g.few)) in
      inside at (sym (within_in at (omega (arith, l, g.few)))) (subst (Told at) c (record {
        low = omega arith;
        high = omega (arith, l, few);
        now = ap Added.Now (sym z) ∙ sym (ap Many m);
        list =
            ap (λ (us : List Tally). set us at (one_more t)) (none_shifted (at - at) at ys (omega arith))
            ∙ ap (λ (j : ℕ). set ys j (one_more (get_or ys j no_tally))) a ∙ o.1 ∙ sym (ap Laid m);
      }))

  module _ (p : ℕ) (h : slot_from n 0 (names_of ts) ≡ Slot.New p) where
    place : at ≡ p
    place = found ∙ list_place n used ys few ∙ ap place_of h

    belongs : NewAt n 0 p ts
    belongs = slot_new n 0 p ts h

    longer : length (added n ts) ≡ used + 1
    longer =
        let f = belongs in
        ap length f.is ∙ length-append (take f.j ts) (fresh n ∷ drop f.j ts) ∙ omega (arith, length-take-le f.j ts f.inside, length-drop f.j ts, f.inside, size)

    low_place : at ≤ used
    low_place = omega (arith, place, belongs.place, belongs.inside, size)

    other : (k : ℕ) → within at ≡ k → false ≡ is_here (get_or ys k no_tally) at used n
    other k e = go (leb used at) refl
      where
        go : (b : Bool) → leb used at ≡ b → false ≡ is_here (get_or ys k no_tally) at used n
        go true q = not_used (get_or ys k no_tally) at used n (leb-true used at q)
        go false q =
            let l : at < used = leb-false used at q in
            let w : at ≡ k = within_in at (omega (arith, l, g.few)) ∙ e in
            let t = get_or ys at no_tally in
            let s : same_as (order (name_of t) n) ≡ false =
            sym (ap (λ (x : Tally). same_as (order (name_of x) n)) (get_or-take used ys at no_tally l)) ∙ new_other n 0 p ts h at (omega (arith, place)) (omega (arith, l, size)) in
            subst (λ (j : ℕ). false ≡ is_here (get_or ys j no_tally) at used n) w
            (sym s ∙ here_told t at used n l (order (name_of t) n) refl (same_as (order (name_of t) n)) refl)

    told_full : most_suppliers ≤ used → Right (within at)
    told_full l =
        let k = within at in
        let t = get_or ys k no_tally in
        let c = change_full t at used n false (other k refl) k refl refl l in
        let m : ltb most_suppliers (length (added n ts)) ≡ true = lt-ltb most_suppliers (length (added n ts)) (omega (arith, longer, l)) in
        subst (Told k) c (record {
          low = omega arith;
          high = omega (arith, within_size at, g.room);
          now = sym (ap Many m);
          list = ap (λ (us : List Tally). set us k t) (none_shifted (k - k) k ys (omega arith)) ∙ set-get_or ys k no_tally ∙ sym (ap Laid m);
        })

    told_new : used < most_suppliers → Right (within at)
    told_new l =
        let w : within at ≡ at = sym (within_in at (omega (arith, low_place, l))) in
        let o = new_one n used ys few p h (omega (arith, l, g.room)) in
        let c = change_new (get_or ys at no_tally) at used n false (other at w) (fresh n) refl refl l in
        let m : ltb most_suppliers (length (added n ts)) ≡ false = le-ltb most_suppliers (length (added n ts)) (omega (arith, longer, l)) in
        inside at w (subst (Told at) c (record {
          low = low_place;
          high = omega (arith, l, g.room);
          now = ap Added.Now (sym longer) ∙ sym (ap Many m);
          list = ap (λ (j : ℕ). set (shifted (used - j) j ys) j (fresh n)) place ∙ o.1 ∙ sym (ap Laid m);
        }))

    told_other : Right (within at)
    told_other = go (leb most_suppliers used) refl
      where
        go : (b : Bool) → leb most_suppliers used ≡ b → Right (within at)
        go true q = told_full (leb-true most_suppliers used q)
        go false q = told_new (leb-false most_suppliers used q)

  pub change_right : Right (within at)
  change_right = go (slot_from n 0 (names_of ts)) refl
    where
      go : (o : Slot) → slot_from n 0 (names_of ts) ≡ o → Right (within at)
      go (Slot.Here p) h = told_here p h
      go (Slot.New p) h = told_other p h

  pub place_ready : Ready (get_or ys (within at) no_tally) at used n
  place_ready =
      record {
        few = g.few;
        name = g.name;
        small = λ l. let w : at ≡ within at = within_in at (omega (arith, l, g.few)) in subst (λ (k : ℕ). (get_or ys k no_tally).count ≤ most_records) w (g.small at l);
      }
