-- Where a search ends, the record is added: one more for the tally that has the name, or a new one before those that come after it.
use Rattle.std.specs.Prelude.{ℕ, suc, ◌+◌, ◌≤◌, ◌<◌, ◌≡◌, refl, List, [], ◌∷◌, ◌++◌, map, length, get_or, set, take, drop, replicate}
use Rattle.std.proofs.Common.{arith, sym, ap}
use Rattle.text.specs.Text.{Bytes}
use Rattle.tally_rules.specs.declared.Order.{Order}
use Rattle.tally_rules.specs.declared.Tally.{Tally}
use Rattle.tally_rules.specs.Tally.{order, name_of, fresh, one_more, added}
use Rattle.tally_flat.specs.declared.Slot.{Slot}
use Rattle.tally_flat.specs.Flat.{slot_by, slot_from}

-- what stands where there is no tally
abbrev pub no_tally : Tally
no_tally = record { name = replicate 24 0; length = 0; count = 0 }

abbrev pub names_of : List Tally → List Bytes
names_of ts = map name_of ts

-- tally j of these has the name, and its place is p
pub record HereAt (n : Bytes) (i p : ℕ) (ts : List Tally) : Type 0 where
  pub j : ℕ
  pub place : p ≡ i + j
  pub inside : j < length ts
  pub is : added n ts ≡ set ts j (one_more (get_or ts j no_tally))

-- the name belongs before tally j, and its place is p
pub record NewAt (n : Bytes) (i p : ℕ) (ts : List Tally) : Type 0 where
  pub j : ℕ
  pub place : p ≡ i + j
  pub inside : j ≤ length ts
  pub is : added n ts ≡ take j ts ++ (fresh n ∷ drop j ts)

slots : {X : Type 0} {i j : ℕ} → Slot.Here i ≡ Slot.New j → X
slots h = absurd (let z : ◌≡◌ {A = ℕ} 0 1 = cc in omega arith)

pub slot_here : (n : Bytes) (i p : ℕ) (ts : List Tally) → slot_from n i (names_of ts) ≡ Slot.Here p → HereAt n i p ts
unfolding slot_from added
slot_here n i p [] h = slots (sym h)
slot_here n i p (t ∷ ts) h = go (order (name_of t) n) refl h (slot_here n (i + 1) p ts)
  where
    go : (o : Order) → order (name_of t) n ≡ o → slot_by o i (slot_from n (i + 1) (names_of ts)) ≡ Slot.Here p →
        (slot_from n (i + 1) (names_of ts) ≡ Slot.Here p → HereAt n (i + 1) p ts) → HereAt n i p (t ∷ ts)
    go Order.Before e q again =
        let a = again q in
        record { j = suc a.j; place = omega (arith, a.place); inside = omega (arith, a.inside); is = rw e (ap (λ (us : List Tally). t ∷ us) a.is) }
    go Order.Same e q again =
        let z : i ≡ p = cc in
        record { j = 0; place = omega arith; inside = omega arith; is = rw e }
    go Order.After e q again = slots (sym q)

pub slot_new : (n : Bytes) (i p : ℕ) (ts : List Tally) → slot_from n i (names_of ts) ≡ Slot.New p → NewAt n i p ts
unfolding slot_from added
slot_new n i p [] h =
    let z : i ≡ p = cc in
    record { j = 0; place = omega arith; inside = omega arith; is = refl }
slot_new n i p (t ∷ ts) h = go (order (name_of t) n) refl h (slot_new n (i + 1) p ts)
  where
    go : (o : Order) → order (name_of t) n ≡ o → slot_by o i (slot_from n (i + 1) (names_of ts)) ≡ Slot.New p →
        (slot_from n (i + 1) (names_of ts) ≡ Slot.New p → NewAt n (i + 1) p ts) → NewAt n i p (t ∷ ts)
    go Order.Before e q again =
        let a = again q in
        record { j = suc a.j; place = omega (arith, a.place); inside = omega (arith, a.inside); is = rw e (ap (λ (us : List Tally). t ∷ us) a.is) }
    go Order.Same e q again = slots q
    go Order.After e q again =
        let z : i ≡ p = cc in
        record { j = 0; place = omega arith; inside = omega arith; is = rw e }
