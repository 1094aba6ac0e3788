-- The walk that mends says of the mended lines what the judge says of them.
use Rattle.std.specs.Prelude.{ℕ, suc, Bool, true, false, cond, ◌&&◌}
use Rattle.std.proofs.Math.Path.{◌≡◌, refl}
use Rattle.std.proofs.Common.{◌∙◌, arith}
use mathlib.Core.List.{List, [], ◌∷◌, ◌++◌}
use Rattle.text.specs.Text.{Line}
use Rattle.text.specs.Find.{is_blank}
use Rattle.rules.specs.Record.{Raw}
use Rattle.judge_line.specs.Got.{Got, got, bad}
use Rattle.judge_file.specs.Place.{sdfile, Place, first, second, third, counts, atoms, bonds, properties, over, items, values}
use Rattle.judge_file.specs.Place.{Turn, next, done, turn_of}
use Rattle.judge_file.specs.Verdict.{stopped, run}
use Rattle.judge_file.specs.Runs.{run_next, run_stop}
use Rattle.judge_file.proofs.Runs.{run_done}
use Rattle.judge_file.specs.Takes.{Takes}
use Rattle.judge_file.proofs.Takes.{takes_turn}
use Rattle.judge_file.specs.Witness.{blank_line}
use Rattle.mend_rules.specs.Mend.{Action, keep, put, lose, all_blank, some, action_at, emptied, went, fell, left_by, left}

module _ (limit : ℕ) where
  -- ---- a line that stays

  went_by : (p : Place) (xs : List Raw) (i : ℕ) (l : Line) (t : List Line) (q : Place) (ys : List Raw) (g : Got Turn) → turn_of sdfile limit p l ≡ g →
      left_by xs g ≡ went q ys → run sdfile limit p xs i (l ∷ t) ≡ run sdfile limit q ys (suc i) t
  went_by p xs i l t q ys (got (next r)) e h =
      let a : r ≡ q = cc in
      let b : xs ≡ ys = cc in
      run_next sdfile limit p r xs i l t e ∙ rw (a, b)
  went_by p xs i l t q ys (got (done x)) e h =
      let a : first ≡ q = cc in
      let b : xs ++ (x ∷ []) ≡ ys = cc in
      run_done sdfile limit p x xs i l t e ∙ rw (a, b)
  went_by p xs i l t q ys (bad n c) e h = absurd (let z : ◌≡◌ {A = ℕ} 0 1 = cc in omega arith)

  pub run_went : (p : Place) (xs : List Raw) (i : ℕ) (l : Line) (t : List Line) (q : Place) (ys : List Raw) →
      left limit p xs l ≡ went q ys → run sdfile limit p xs i (l ∷ t) ≡ run sdfile limit q ys (suc i) t
  unfolding left
  run_went p xs i l t q ys h = went_by p xs i l t q ys (turn_of sdfile limit p l) refl h

  fell_by : (p : Place) (xs : List Raw) (i : ℕ) (l : Line) (t : List Line) (n c : ℕ) (g : Got Turn) → turn_of sdfile limit p l ≡ g →
      left_by xs g ≡ fell n c → run sdfile limit p xs i (l ∷ t) ≡ stopped n i c
  fell_by p xs i l t n c (got (next r)) e h = absurd (let z : ◌≡◌ {A = ℕ} 0 1 = cc in omega arith)
  fell_by p xs i l t n c (got (done x)) e h = absurd (let z : ◌≡◌ {A = ℕ} 0 1 = cc in omega arith)
  fell_by p xs i l t n c (bad m d) e h = run_stop sdfile limit p xs i l t m d e ∙ cc

  pub run_fell : (p : Place) (xs : List Raw) (i : ℕ) (l : Line) (t : List Line) (n c : ℕ) →
      left limit p xs l ≡ fell n c → run sdfile limit p xs i (l ∷ t) ≡ stopped n i c
  unfolding left
  run_fell p xs i l t n c h = fell_by p xs i l t n c (turn_of sdfile limit p l) refl h

  -- ---- an empty line, where one is put

  not_put : {X : Type 0} (t : Bool) (a : Action) → (a ≡ put → X) → cond t a keep ≡ put → X
  not_put true a f h = f h
  not_put false a f h = absurd (let z : ◌≡◌ {A = ℕ} 0 1 = cc in omega arith)

  pub run_put : (p : Place) (xs : List Raw) (i : ℕ) (l : Line) (ls t : List Line) → action_at p xs l ls ≡ put →
      run sdfile limit p xs i ([] ∷ t) ≡ run sdfile limit (emptied p) xs (suc i) t
  unfolding action_at emptied
  run_put first xs i l ls t h = not_put (some xs && all_blank (l ∷ ls)) lose (λ z. absurd (let z : ◌≡◌ {A = ℕ} 0 1 = cc in omega arith)) h
  run_put (second h₁) xs i l ls t h = absurd (let z : ◌≡◌ {A = ℕ} 0 1 = cc in omega arith)
  run_put (third h₁ h₂) xs i l ls t h = absurd (let z : ◌≡◌ {A = ℕ} 0 1 = cc in omega arith)
  run_put (counts hs) xs i l ls t h = absurd (let z : ◌≡◌ {A = ℕ} 0 1 = cc in omega arith)
  run_put (atoms hs c k ys) xs i l ls t h = absurd (let z : ◌≡◌ {A = ℕ} 0 1 = cc in omega arith)
  run_put (bonds hs c ys k bs) xs i l ls t h = absurd (let z : ◌≡◌ {A = ℕ} 0 1 = cc in omega arith)
  run_put (properties hs c ys bs ps) xs i l ls t h = absurd (let z : ◌≡◌ {A = ℕ} 0 1 = cc in omega arith)
  run_put (over m) xs i l ls t h = absurd (let z : ◌≡◌ {A = ℕ} 0 1 = cc in omega arith)
  run_put (items m is) xs i l ls t h = not_put (is_blank l) lose (λ z. absurd (let z : ◌≡◌ {A = ℕ} 0 1 = cc in omega arith)) h
  run_put (values m is name vs) xs i l ls t h =
      run_next sdfile limit (values m is name vs) _ xs i [] t (takes_turn sdfile limit (Takes.blank_line blank_line))
