-- The place that is found in the list is the one that the flat layer finds.
use Rattle.std.specs.Prelude.{ℕ, suc, ◌+◌, ◌≤◌, ◌<◌, ◌≡◌, refl, List, [], ◌∷◌, Bool, cond, length, take}
use Rattle.std.proofs.Common.{arith, add-one, sym, ap, ◌∙◌, take_all, length-take-le}
use Rattle.text.specs.Text.{Bytes}
use Rattle.tally_rules.specs.declared.Order.{Order}
use Rattle.tally_rules.specs.declared.Tally.{Tally}
use Rattle.tally_rules.specs.Tally.{order, name_of}
use Rattle.tally_flat.specs.declared.Slot.{Slot}
use Rattle.tally_flat.specs.Flat.{slot_by, slot_from}
use Rattle.tally_flat.specs.Slots.{names_of}
use Rattle.tally_good.specs.Judge as J
use Rattle.tally_list.specs.Tallies.{is_before, place_from}

abbrev pub place_of : Slot → ℕ
place_of (Slot.Here i) = i
place_of (Slot.New i) = i

pub same_place : (n : Bytes) (i : ℕ) (ts : List Tally) → place_from n i ts ≡ place_of (slot_from n i (names_of ts))
unfolding place_from slot_from is_before
same_place n i [] = refl
same_place n i (t ∷ ts) = go (order (name_of t) n) (same_place n (suc i) ts)
  where
    go : (o : Order) → place_from n (suc i) ts ≡ place_of (slot_from n (suc i) (names_of ts)) → cond (J.is_before o) (place_from n (suc i) ts) i ≡ place_of (slot_by o i (slot_from n (i + 1) (names_of ts)))
    go Order.Before again = again ∙ ap (λ (j : ℕ). place_of (slot_from n j (names_of ts))) (sym (add-one i))
    go Order.Same again = refl
    go Order.After again = refl

-- ---- A tally's name against another, in the facts that the code has

pub front_all : (bs n : Bytes) (k : ℕ) → length bs ≤ k → (o : Order) → o ≡ order bs n → o ≡ order (take k bs) n
front_all bs n k h o e = e ∙ ap (λ (cs : Bytes). order cs n) (sym (take_all k bs h))

pub before_told : (t : Tally) (n : Bytes) (o : Order) → o ≡ order (take t.length t.name) n → (r : Bool) → r ≡ J.is_before o → r ≡ is_before t n
unfolding is_before
before_told t n o eo r er = er ∙ ap J.is_before eo

pub part_size : (bs : Bytes) (k : ℕ) → k < length bs → k ≡ length (take k bs)
part_size bs k h = sym (length-take-le k bs (omega arith))
