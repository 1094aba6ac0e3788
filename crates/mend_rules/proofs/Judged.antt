-- The walk that mends says of the mended lines what the judge says of them.
use Rattle.std.specs.Prelude.{ℕ, suc}
use Rattle.std.proofs.Math.Path.{◌≡◌, refl}
use Rattle.std.proofs.Common.{◌∙◌}
use mathlib.Core.List.{List, [], ◌∷◌, map}
use Rattle.text.specs.Text.{Line}
use Rattle.rules.specs.Record.{Raw}
use Rattle.judge_file.specs.Place.{sdfile, Place}
use Rattle.judge_file.specs.Verdict.{run}
use Rattle.mend_rules.specs.Mend.{Action, keep, put, lose, action_at, emptied, Left, went, fell, left, actions_of, applied, walk_from}
use Rattle.mend_rules.specs.Judged.{run_went, run_fell, run_put}

module _ (limit : ℕ) where
  -- ---- the walk

  pub judged_as : (p : Place) (xs : List Raw) (j : ℕ) (ls : List Line) →
      run sdfile limit p xs j (applied (actions_of limit p xs ls) ls) ≡ walk_from limit p xs j ls
  unfolding applied actions_of walk_from run
  judged_as p xs j [] = refl
  judged_as p xs j (l ∷ ls) = go (λ q ys k. judged_as q ys k ls) (action_at p xs l ls) refl (left limit p xs l) refl (left limit (emptied p) xs l) refl
    where
      go : ((q : Place) (ys : List Raw) (k : ℕ) → run sdfile limit q ys k (applied (actions_of limit q ys ls) ls) ≡ walk_from limit q ys k ls) →
          (a : Action) → action_at p xs l ls ≡ a → (f : Left) → left limit p xs l ≡ f → (g : Left) → left limit (emptied p) xs l ≡ g →
          run sdfile limit p xs j (applied (actions_of limit p xs (l ∷ ls)) (l ∷ ls)) ≡ walk_from limit p xs j (l ∷ ls)
      go r keep e (went q ys) f k g = rw (e, f, actions_of, walk_from, applied) (run_went limit p xs j l (applied (actions_of limit q ys ls) ls) q ys f ∙ r q ys (suc j))
      go r keep e (fell n c) f k g = rw (e, f, actions_of, walk_from, applied) (run_fell limit p xs j l (applied (map (λ t. keep) ls) ls) n c f)
      go r put e k f (went q ys) g = rw (e, g, actions_of, walk_from, applied) (run_put limit p xs j l ls (l ∷ applied (actions_of limit q ys ls) ls) e ∙ run_went limit (emptied p) xs (suc j) l (applied (actions_of limit q ys ls) ls) q ys g ∙ r q ys (suc (suc j)))
      go r put e k f (fell n c) g = rw (e, g, actions_of, walk_from, applied) (run_put limit p xs j l ls (l ∷ applied (map (λ t. keep) ls) ls) e ∙ run_fell limit (emptied p) xs (suc j) l (applied (map (λ t. keep) ls) ls) n c g)
      go r lose e k f m g = rw (e, actions_of, walk_from, applied) (r p xs j)
