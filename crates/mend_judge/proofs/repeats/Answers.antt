-- `mend_judge::repeats` meets its contract: what stands before the place found is not the key.
use Rattle.std.proofs.Common.{ℕ, ◌+◌, ◌-◌, ◌≡◌, refl, sym, ap, ◌∙◌, arith, Bool, true, false, cond, ◌||◌, nat_eq, take, drop, List, [], ◌∷◌}
use Rattle.std.proofs.lemmas.List.{drop-take}
use Rattle.std.specs.List.{list_any}
use borrow.Author.Tests.{eq-eqb, ne_eqb, eqb-true, eqb-false}
use Rattle.judge_line.specs.Field.{elem}
use Rattle.mend_judge.proofs.repeats.Goals as goal

turned : (x k : ℕ) → nat_eq x k ≡ nat_eq k x
turned x k = go (nat_eq x k) refl
  where
    go : (b : Bool) → nat_eq x k ≡ b → b ≡ nat_eq k x
    go true e = sym (eq-eqb k x (sym (eqb-true x k e)))
    go false e = sym (ne_eqb k x (λ q. eqb-false x k e (sym q)))

among : (k : ℕ) (xs : List ℕ) → list_any (λ x. nat_eq x k) xs ≡ elem k xs
unfolding elem
among k [] = refl
among k (x ∷ xs) = rw (turned x k, among k xs) (either (nat_eq k x) (elem k xs))
  where
    either : (t u : Bool) → (t || u) ≡ cond t true u
    either true u = refl
    either false u = refl

pub returns : goal.returns
returns c =
    let near = c.near_key-near.result in
    let count = c.args.count in
    let keys = c.args.keys.now in
    let e : near + (count - near) ≡ count = omega (arith, c.near_key-near.ensures.within) in
    c.contains.ensures.value
    ∙ among c.args.key (take (count - near) (drop near keys))
    ∙ ap (elem c.args.key) (sym (drop-take near (count - near) keys))
    ∙ ap (λ (n : ℕ). elem c.args.key (drop near (take n keys))) e
    ∙ sym c.near_key-near.ensures.same
