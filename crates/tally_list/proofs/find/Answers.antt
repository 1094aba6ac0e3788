-- `tally_list::find` meets its contract: the place is the first position whose name does not come before.
use Rattle.std.proofs.Common.{ℕ, suc, ◌+◌, ◌≡◌, ◌≤◌, refl, ap, ◌∙◌, arith, Bool, true, false, cond, not, nat_lt, length, take, List, [], ◌∷◌, length-take-le}
use Rattle.std.specs.List.{position_or_len}
use Rattle.std.proofs.lemmas.List.Sums.{prefix_len-le-length}
use Rattle.std.specs.Option.{unwrap_or}
use Rattle.std.specs.declared.option.Option.{Option}
use Rattle.std.specs.declared.option.Option.TheVariants.{Some, None}
use borrow.Author.Tests.{ltb-false}
use Rattle.text.specs.Text.{Bytes}
use Rattle.tally_rules.specs.declared.Tally.{Tally}
use Rattle.tally_list.specs.Tallies.{is_before, place_from}
use Rattle.tally_list.proofs.find.Goals as goal

abbrev first : Bytes → List Tally → ℕ
first n ts = position_or_len (λ t. not (is_before t n)) ts

place_is : (n : Bytes) (i : ℕ) (ts : List Tally) → i + first n ts ≡ place_from n i ts
unfolding place_from
place_is n i [] = omega arith
place_is n i (t ∷ ts) = go (is_before t n) (place_is n (suc i) ts)
  where
    go : (b : Bool) → suc i + first n ts ≡ place_from n (suc i) ts → i + cond (not (not b)) (1 + first n ts) 0 ≡ cond b (place_from n (suc i) ts) i
    go true h = let e : i + (1 + first n ts) ≡ suc i + first n ts = omega arith in e ∙ h
    go false h = omega arith

unwrapped : (used k : ℕ) → k ≤ used → unwrap_or (cond (nat_lt k used) (Some k) None) used ≡ k
unwrapped used k h = go (nat_lt k used) refl
  where
    go : (b : Bool) → nat_lt k used ≡ b → unwrap_or (cond b (Some k) None) used ≡ k
    go true e = refl
    go false e = omega (arith, ltb-false k used e, h)

pub returns : goal.returns
returns c =
    let used = c.args.used in
    let ts = take used c.args.list.now in
    let k = first c.args.name.now ts in
    let l : length ts ≡ used = length-take-le used c.args.list.now c.requires in
    let h : k ≤ used = omega (arith, l, prefix_len-le-length (λ t. not (not (is_before t c.args.name.now))) ts) in
    let z : k ≡ 0 + k = omega arith in
    c.unwrap_or.ensures
    ∙ ap (λ (r : Option ℕ). unwrap_or r used) c.first_not_before.ensures
    ∙ ap (λ (m : ℕ). unwrap_or (cond (nat_lt k m) (Some k) None) used) l
    ∙ unwrapped used k h ∙ z ∙ place_is c.args.name.now 0 ts
