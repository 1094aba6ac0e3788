-- A record added to a list of tallies: found, then one more; or a new tally inserted. The list is then what the flat layer leaves, and the rules say.
use Rattle.std.specs.Prelude.{ℕ, zero, suc, ◌+◌, ◌-◌, ◌≤◌, ◌<◌, ◌≡◌, List, [], ◌∷◌, ◌++◌, length, get_or, set, take, drop}
use Rattle.std.proofs.Common.{arith, sym, ap, ap₂, ◌∙◌, append_assoc, length-set, length-append, length-drop, take-append-drop, drop-set-lt, drop-cons, get_or-set_same, get_or-drop, take-suc, length-take-le, take-take, take-add, drop_at, get_or-take}
use Rattle.std.proofs.lemmas.List.{take-set-le, drop-set-add, set_at, set-append_left}
use Rattle.std.proofs.Math.Seq.{append_snoc}
use Rattle.text.specs.Text.{Bytes}
use Rattle.tally_rules.specs.declared.Tally.{Tally}
use Rattle.tally_rules.specs.Tally.{fresh, one_more, added}
use Rattle.tally_flat.specs.declared.Slot.{Slot}
use Rattle.tally_flat.specs.Flat.{slot_from, laid}
use Rattle.tally_flat.specs.Slots.{no_tally, names_of, slot_here, slot_new}
use Rattle.tally_list.specs.Tallies.{place_from, shifted}
use Rattle.tally_list.specs.Same.{place_of, same_place}

-- ---- A place made, as a list

dropped_set : (zs : List Tally) (n : ℕ) (v : Tally) → n < length zs → drop n (set zs n v) ≡ v ∷ drop (suc n) zs
dropped_set zs n v h =
    drop-cons (set zs n v) n no_tally (omega (arith, h, length-set zs n v))
    ∙ ap₂ (λ (x : Tally) (xs : List Tally). x ∷ xs) (get_or-set_same zs n v no_tally h) (drop-set-lt (suc n) zs n v (omega arith))

shifted_parts : (k p : ℕ) (zs : List Tally) → p + k < length zs → shifted k p zs ≡ take (suc p) zs ++ (take k (drop p zs) ++ drop (suc (p + k)) zs)
unfolding shifted
shifted_parts zero p zs h = let e : p + 0 ≡ p = omega arith in sym (ap (λ (j : ℕ). take (suc p) zs ++ drop (suc j) zs) e ∙ take-append-drop (suc p) zs)
shifted_parts (suc k) p zs h =
    let v = get_or zs (p + k) no_tally in
    let ws = set zs (suc (p + k)) v in
    let i : suc (p + k) ≡ p + suc k = omega arith in
    let again = shifted_parts k p ws (omega (arith, h, length-set zs (suc (p + k)) v)) in
    let a : take (suc p) ws ≡ take (suc p) zs = take-set-le (suc p) zs (suc (p + k)) v (omega arith) in
    let b : take k (drop p ws) ≡ take k (drop p zs) =
    ap (λ (j : ℕ). take k (drop p (set zs j v))) i ∙ ap (take k) (drop-set-add p zs (suc k) v) ∙ take-set-le k (drop p zs) (suc k) v (omega arith) in
    let c : drop (suc (p + k)) ws ≡ v ∷ drop (suc (suc (p + k))) zs = dropped_set zs (suc (p + k)) v (omega (arith, h)) in
    let d : take (suc k) (drop p zs) ≡ take k (drop p zs) ++ (v ∷ []) =
    take-suc (drop p zs) k no_tally (omega (arith, h, length-drop p zs)) ∙ ap (λ (x : Tally). take k (drop p zs) ++ (x ∷ [])) (get_or-drop p zs k no_tally) in
    again ∙ ap₂ ◌++◌ a (ap₂ ◌++◌ b c ∙ sym (append_snoc (take k (drop p zs)) v (drop (suc (suc (p + k))) zs)) ∙ ap₂ ◌++◌ (sym d) (ap (λ (j : ℕ). drop (suc j) zs) i))

-- ---- The list with a record more

module _ (n : Bytes) (used : ℕ) (ys : List Tally) (few : used ≤ length ys) where
  abbrev ts : List Tally
  ts = take used ys

  size : length ts ≡ used
  size = length-take-le used ys few

  split : ys ≡ ts ++ drop used ys
  split = sym (take-append-drop used ys)

  -- the tally that is found has the name: one more for it
  pub one_more_lem : (p : ℕ) → slot_from n 0 (names_of ts) ≡ Slot.Here p → (p < used) × (set ys p (one_more (get_or ys p no_tally)) ≡ laid (added n ts) ys)
  one_more_lem p h =
      let f = slot_here n 0 p ts h in
      let e : f.j ≡ p = omega (arith, f.place) in
      let l : p < used = omega (arith, e, f.inside, size) in
      let t = get_or-take used ys p no_tally l in
      let a : added n ts ≡ set ts p (one_more (get_or ys p no_tally)) =
      f.is ∙ ap (λ (j : ℕ). set ts j (one_more (get_or ts j no_tally))) e ∙ ap (λ (x : Tally). set ts p (one_more x)) t in
      let z : length (added n ts) ≡ used = ap length a ∙ length-set ts p (one_more (get_or ys p no_tally)) ∙ size in (
        l,
        ap (λ (us : List Tally). set us p (one_more (get_or ys p no_tally))) split
            ∙ set-append_left ts (drop used ys) p (one_more (get_or ys p no_tally)) (omega (arith, l, size))
            ∙ ap₂ ◌++◌ (sym a) (ap (λ (k : ℕ). drop k ys) (sym z)),
      )

  -- the name is new: a place is made for it, and it is put there
  pub new_one : (p : ℕ) → slot_from n 0 (names_of ts) ≡ Slot.New p → used < length ys → (p ≤ used) × (set (shifted (used - p) p ys) p (fresh n) ≡ laid (added n ts) ys)
  new_one p h room =
      let f = slot_new n 0 p ts h in
      let e : f.j ≡ p = omega (arith, f.place) in
      let l : p ≤ used = omega (arith, e, f.inside, size) in
      let k = used - p in
      let i : p + k ≡ used = omega (arith, l) in
      let front : take p ts ≡ take p ys = take-take p used ys l in
      let back : drop p ts ≡ take k (drop p ys) =
      ap (λ (j : ℕ). drop p (take j ys)) (sym i) ∙ ap (drop p) (take-add p k ys) ∙ drop_at (take p ys) (take k (drop p ys)) p (length-take-le p ys (omega (arith, l, few))) in
      let a : added n ts ≡ take p ys ++ (fresh n ∷ take k (drop p ys)) =
      f.is ∙ ap (λ (j : ℕ). take j ts ++ (fresh n ∷ drop j ts)) e ∙ ap₂ (λ (x y : List Tally). x ++ (fresh n ∷ y)) front back in
      let z : length (added n ts) ≡ suc used =
      ap length a ∙ length-append (take p ys) (fresh n ∷ take k (drop p ys))
      ∙ omega (arith, length-take-le p ys (omega (arith, l, few)), length-take-le k (drop p ys) (omega (arith, length-drop p ys, few, l)), l) in
      let s = shifted_parts k p ys (omega (arith, i, room)) in
      let u : take (suc p) ys ≡ take p ys ++ (get_or ys p no_tally ∷ []) = take-suc ys p no_tally (omega (arith, l, room)) in
      let w : shifted k p ys ≡ take p ys ++ (get_or ys p no_tally ∷ (take k (drop p ys) ++ drop (suc used) ys)) =
      s ∙ ap₂ ◌++◌ u (ap (λ (j : ℕ). take k (drop p ys) ++ drop (suc j) ys) i) ∙ append_snoc (take p ys) (get_or ys p no_tally) (take k (drop p ys) ++ drop (suc used) ys) in (
        l,
        ap (λ (us : List Tally). set us p (fresh n)) w
            ∙ set_at (take p ys) (get_or ys p no_tally) (take k (drop p ys) ++ drop (suc used) ys) (fresh n) p (length-take-le p ys (omega (arith, l, few)))
            ∙ sym (append_assoc (take p ys) (fresh n ∷ take k (drop p ys)) (drop (suc used) ys))
            ∙ ap₂ ◌++◌ (sym a) (ap (λ (j : ℕ). drop j ys) (sym z)),
      )

  -- where the search ends in the list, it ends in the flat arrays
  pub list_place : place_from n 0 ts ≡ place_of (slot_from n 0 (names_of ts))
  list_place = same_place n 0 ts
