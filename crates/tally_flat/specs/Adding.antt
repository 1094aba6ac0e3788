-- One record more of a supplier: the list in flat memory is the one of the rules.
use Rattle.std.specs.Prelude.{ℕ, ◌+◌, ◌-◌, ◌≤◌, ◌<◌, ◌≡◌, Bool, length, get_or, set, take}
use Rattle.std.proofs.Common.{arith, ◌∙◌, length-set, length-append}
use Rattle.std.proofs.Math.Path.{refl, sym, ap, ap₂, subst}
use mathlib.Core.List.{List, ◌∷◌, ◌++◌}
use Rattle.std.proofs.Math.Bool.{true, false, cond}
use Rattle.std.proofs.Math.Dec.{ltb, leb}
use Rattle.std.proofs.Math.ListN.{drop}
use Rattle.std.proofs.lemmas.List.{set-append_left}
use borrow.Author.Tests.{le-ltb, lt-ltb, leb-true, leb-false}
use Rattle.text.specs.Text.{Bytes}
use Rattle.tally_rules.specs.declared.Tally.{Tally}
use Rattle.tally_rules.specs.Tally.{most_suppliers, fresh, one_more, added}
use Rattle.tally_flat.specs.declared.Slot.{Slot}
use Rattle.tally_flat.specs.declared.Added.{Added}
use Rattle.tally_flat.specs.Flat.{Memory, memory, tally_at, tallies_from, tallies_in, names_from, Looked, slot_from, inserted, Near, Placed, new_of, after_new, AddReady, added_of, laid, AddedTo}
use Rattle.tally_flat.specs.Slots.{no_tally, names_of, HereAt, NewAt, slot_here, slot_new}
use Rattle.tally_flat.specs.Memory.{tallies_length, tallies_take, front_add, front_drop, front_at, names_are, inserted_sized, inserted_tallies, risen_sized, risen_tallies}

module _ (m : Memory) (used : ℕ) (n : Bytes) (g : AddReady m used n) where
  abbrev ts : List Tally
  ts = tallies_from m 0 used

  abbrev rest : List Tally
  rest = tallies_from m used (most_suppliers - used)

  all_parts : tallies_in m ≡ ts ++ rest
  all_parts = let e : most_suppliers ≡ used + (most_suppliers - used) = omega (arith, g.few) in ap (tallies_from m 0) e ∙ front_add m used (most_suppliers - used)

  pub add_looked : Looked m.names m.lengths used
  add_looked = record { names = g.sized.names; lengths = g.sized.lengths; few = g.few; short = g.short }

  module _ (o : Slot) (eo : o ≡ slot_from n 0 (names_from m.names m.lengths 0 used)) where
    slot_is : slot_from n 0 (names_of ts) ≡ o
    slot_is = ap (slot_from n 0) (names_are m 0 used (λ j h. g.short j (omega arith))) ∙ sym eo

    -- ---- The list has the name

    module _ (p : ℕ) (q : o ≡ Slot.Here p) where
      found : HereAt n 0 p ts
      found = slot_here n 0 p ts (slot_is ∙ q)

      place : found.j ≡ p
      place = omega (arith, found.place)

      pub here_inside : p < used
      here_inside = omega (arith, place, found.inside, tallies_length m 0 used)

      here_added : added n ts ≡ set ts p (one_more (tally_at m p))
      here_added =
          found.is ∙ ap (λ (j : ℕ). set ts j (one_more (get_or ts j no_tally))) place
          ∙ ap (λ (t : Tally). set ts p (one_more t)) (front_at m used p here_inside)

      here_length : length (added n ts) ≡ used
      here_length = ap length here_added ∙ length-set ts p (one_more (tally_at m p)) ∙ tallies_length m 0 used

      not_many : ltb most_suppliers (length (added n ts)) ≡ false
      not_many = le-ltb most_suppliers (length (added n ts)) (omega (arith, here_length, g.few))

      pub here_now : Added.Now used ≡ added_of m used n
      unfolding added_of
      here_now = rw not_many (ap Added.Now (sym here_length))

      pub here_told : (cs : List ℕ) → cs ≡ set m.counts p (get_or m.counts p 0 + 1) → AddedTo m used n (memory m.names m.lengths cs)
      here_told cs e =
          let h : p < most_suppliers = omega (arith, here_inside, g.few) in
          subst (λ (xs : List ℕ). AddedTo m used n (memory m.names m.lengths xs)) (sym e)
          (record {
            sized = risen_sized m p g.sized h;
            tallies =
                risen_tallies m p g.sized h
                ∙ ap (λ (us : List Tally). set us p (one_more (tally_at m p))) all_parts
                ∙ set-append_left ts rest p (one_more (tally_at m p)) (omega (arith, here_inside, tallies_length m 0 used))
                ∙ ap₂ ◌++◌ (sym here_added) (sym after)
                ∙ sym (ap (λ (b : Bool). cond b (tallies_in m) (laid (added n ts) (tallies_in m))) not_many);
          })
        where
          after : drop (length (added n ts)) (tallies_in m) ≡ rest
          after = ap (λ (k : ℕ). drop k (tallies_in m)) here_length ∙ front_drop m used most_suppliers g.few

    -- ---- The name belongs there

    module _ (p : ℕ) (q : o ≡ Slot.New p) where
      belongs : NewAt n 0 p ts
      belongs = slot_new n 0 p ts (slot_is ∙ q)

      spot : belongs.j ≡ p
      spot = omega (arith, belongs.place)

      inside : p ≤ used
      inside = omega (arith, spot, belongs.inside, tallies_length m 0 used)

      pub new_near : Near m p used n
      new_near = record { sized = g.sized; place = inside; few = g.few; name = g.name }

      new_added : added n ts ≡ tallies_from m 0 p ++ (fresh n ∷ tallies_from m p (used - p))
      new_added =
          belongs.is ∙ ap (λ (j : ℕ). take j ts ++ (fresh n ∷ drop j ts)) spot
          ∙ ap₂ (λ (a b : List Tally). a ++ (fresh n ∷ b)) (tallies_take m 0 p used inside) (front_drop m p used inside)

      new_length : length (added n ts) ≡ used + 1
      new_length =
          let a = tallies_length m 0 p in
          let b = tallies_length m p (used - p) in
          ap length new_added ∙ length-append (tallies_from m 0 p) (fresh n ∷ tallies_from m p (used - p)) ∙ omega (arith, a, b, inside)

      abbrev Told : Added → Memory → Type 0
      Told r m' = (r ≡ added_of m used n) × AddedTo m used n m'

      full : leb most_suppliers used ≡ true → Told Added.Full m
      unfolding added_of
      full e =
          let l = leb-true most_suppliers used e in
          let many : ltb most_suppliers (length (added n ts)) ≡ true = lt-ltb most_suppliers (length (added n ts)) (omega (arith, new_length, l)) in
          (rw many, record { sized = g.sized; tallies = rw many })

      room : leb most_suppliers used ≡ false → Told (Added.Now (used + 1)) (inserted p used n m)
      unfolding added_of
      room e =
          let l = leb-false most_suppliers used e in
          let few : ltb most_suppliers (length (added n ts)) ≡ false = le-ltb most_suppliers (length (added n ts)) (omega (arith, new_length, l)) in
          let put : Placed m p used n = record { sized = g.sized; place = inside; room = l; name = g.name } in
          let after : drop (length (added n ts)) (tallies_in m) ≡ tallies_from m (used + 1) (most_suppliers - (used + 1)) =
          ap (λ (k : ℕ). drop k (tallies_in m)) new_length ∙ front_drop m (used + 1) most_suppliers (omega arith) in (
            ap Added.Now (sym new_length) ∙ sym (ap (λ (b : Bool). cond b Added.Full (Added.Now (length (added n ts)))) few),
            record {
              sized = inserted_sized m p used n put;
              tallies =
                  inserted_tallies m p used n put ∙ ap₂ ◌++◌ (sym new_added) (sym after)
                  ∙ sym (ap (λ (b : Bool). cond b (tallies_in m) (laid (added n ts) (tallies_in m))) few);
            },
          )

      pub new_told : (r : Added) (m' : Memory) → (r ≡ new_of used) × (m' ≡ after_new p used n m) → (r ≡ added_of m used n) × AddedTo m used n m'
      unfolding after_new
      new_told r m' h = go (leb most_suppliers used) refl h.0 h.1
        where
          go : (b : Bool) → leb most_suppliers used ≡ b → r ≡ cond b Added.Full (Added.Now (used + 1)) → m' ≡ cond b m (inserted p used n m) → Told r m'
          go true e a c = subst (λ (s : Added). Told s m') (sym a) (subst (Told Added.Full) (sym c) (full e))
          go false e a c = subst (λ (s : Added). Told s m') (sym a) (subst (Told (Added.Now (used + 1))) (sym c) (room e))
