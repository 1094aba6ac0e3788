-- Both layers say the same of a record added: from the same tallies in flat memory and in a list, the answers agree and so do the tallies then.
use Rattle.std.specs.Prelude.{ℕ, ◌+◌, ◌-◌, ◌≤◌, ◌≡◌, refl, Bool, true, false, cond, ltb, length, take, drop}
use Rattle.std.proofs.Common.{arith, sym, ap₂, ◌∙◌, take-take, take-add, drop_at, length-take-le, ltb-false}
use Rattle.std.proofs.Math.Path.{ap}
use mathlib.Core.List.{List, ◌++◌}
use Rattle.std.proofs.Math.Seq.{take-append-add}
use Rattle.text.specs.Text.{Bytes}
use Rattle.tally_rules.specs.declared.Tally.{Tally}
use Rattle.tally_rules.specs.Tally.{most_suppliers, added}
use Rattle.tally_flat.specs.Flat.{Memory, tallies_from, tallies_in, added_of, now_of, laid, laid_by, AddedTo}
use Rattle.tally_flat.specs.Memory.{tallies_take}

-- a front of k + n, without its first k
front_past : (k n : ℕ) (ys : List Tally) → k ≤ length ys → drop k (take (k + n) ys) ≡ take n (drop k ys)
front_past k n ys h = ap (drop k) (take-add k n ys) ∙ drop_at (take k ys) (take n (drop k ys)) k (length-take-le k ys h)

module _ (ts ys : List Tally) (room : most_suppliers ≤ length ys) where
  laid_front : length ts ≤ most_suppliers → laid ts (take most_suppliers ys) ≡ take most_suppliers (laid ts ys)
  laid_front h =
      let k = length ts in
      let n = most_suppliers - k in
      let e : most_suppliers ≡ k + n = omega (arith, h) in
      ap (λ (j : ℕ). ts ++ drop k (take j ys)) e
      ∙ ap (λ (us : List Tally). ts ++ us) (front_past k n ys (omega (arith, h, room)))
      ∙ sym (take-append-add ts (drop k ys) n)
      ∙ ap (λ (j : ℕ). take j (laid ts ys)) (sym e)

  laid_by_front : laid_by ts (take most_suppliers ys) ≡ take most_suppliers (laid_by ts ys)
  laid_by_front = go (ltb most_suppliers (length ts)) refl
    where
      go : (b : Bool) → ltb most_suppliers (length ts) ≡ b → cond b (take most_suppliers ys) (laid ts (take most_suppliers ys)) ≡ take most_suppliers (cond b ys (laid ts ys))
      go true e = refl
      go false e = laid_front (ltb-false most_suppliers (length ts) e)

module _ (m m' : Memory) (ys zs : List Tally) (used : ℕ) (n : Bytes) (few : used ≤ most_suppliers) (room : most_suppliers ≤ length ys) (same : tallies_in m ≡ take most_suppliers ys) where
  in_use : tallies_from m 0 used ≡ take used ys
  in_use = sym (tallies_take m 0 used most_suppliers few) ∙ ap (take used) same ∙ take-take used most_suppliers ys few

  -- `tally_flat::add_in` and `add` give the same answer
  pub same_answer : added_of m used n ≡ now_of (added n (take used ys))
  unfolding added_of
  same_answer = ap (λ (ts : List Tally). now_of (added n ts)) in_use

  -- and leave the same tallies
  pub same_tallies : AddedTo m used n m' → zs ≡ laid_by (added n (take used ys)) ys → tallies_in m' ≡ take most_suppliers zs
  same_tallies a e =
      a.tallies ∙ ap₂ (λ (ts us : List Tally). laid_by (added n ts) us) in_use same
      ∙ laid_by_front (added n (take used ys)) ys room
      ∙ ap (take most_suppliers) (sym e)
