-- The judge and the rules agree on lists of lines: the same lines are good, and stand for the same records.
use Rattle.std.specs.Prelude.{ℕ, ◌≡◌, refl, ◌↔◌, List, [], ◌∷◌, ◌++◌, length}
use Rattle.std.proofs.Common.{sym, ap, ap₂, ◌∙◌, subst, append-nil, length-append, arith}
use Rattle.text.specs.Text.{Line}
use Rattle.rules.specs.Record.{Molecule, Raw, Molfile, SDfile}
use Rattle.judge_file.specs.Place.{first, over, molfile, sdfile}
use Rattle.judge_file.specs.Verdict.{at, run}
use Rattle.judge_file.specs.From.{alone}
use Rattle.judge_file.proofs.Runs.{complete, rewind}

module _ (limit : ℕ) (ls : List Line) where
  -- ---- SDfiles

  accepted_sd : (xs : List Raw) → run sdfile limit first [] 1 ls ≡ at first xs → SDfile limit ls xs
  accepted_sd xs h =
      let r = rewind sdfile limit first [] 1 ls first xs tt h [] [] SDfile.none in
      let e : r.zs ≡ xs = r.all ∙ append-nil xs in
      subst (SDfile limit ls) e (subst (λ (t : List Line). SDfile limit t r.zs) (append-nil ls) r.from)

  accept_sd : (xs : List Raw) → SDfile limit ls xs → run sdfile limit first [] 1 ls ≡ at first xs
  accept_sd xs f =
      let c = complete sdfile limit first [] 1 ls xs f in
      c.is ∙ ap₂ at c.ends.0 (sym (c.all ∙ ap (λ (z : List Raw). c.ys ++ z) c.ends.1 ∙ append-nil c.ys))

  pub accepts_sd : (xs : List Raw) → (run sdfile limit first [] 1 ls ≡ at first xs) ↔ SDfile limit ls xs
  accepts_sd xs = (accepted_sd xs, accept_sd xs)

  -- ---- Molfiles

  one_only : (x y : Raw) (ys : List Raw) → x ∷ [] ≡ ys ++ (y ∷ []) → (ys ≡ []) × (x ≡ y)
  one_only x y [] e = (refl, cc)
  one_only x y (z ∷ ys) e = absurd (omega (arith, ap length e, length-append ys (y ∷ [])))

  molecule_of : (m k : Molecule) → alone m ≡ alone k → m ≡ k
  molecule_of m k e = ap (λ (x : Raw). x.molecule) e

  -- a molfile's run finishes no record before
  pub none_before : (m : Molecule) (xs : List Raw) → run molfile limit first [] 1 ls ≡ at (over m) xs → xs ≡ []
  none_before m xs h =
      let r = rewind molfile limit first [] 1 ls (over m) xs tt h [] (alone m ∷ []) (refl, refl) in
      (one_only (alone r.from.0) (alone m) xs (sym r.from.2 ∙ r.all)).0

  accepted_mol : (m : Molecule) → run molfile limit first [] 1 ls ≡ at (over m) [] → Molfile limit ls (alone m)
  accepted_mol m h =
      let r = rewind molfile limit first [] 1 ls (over m) [] tt h [] (alone m ∷ []) (refl, refl) in
      let f = r.from in
      let e : f.0 ≡ m = molecule_of f.0 m (sym (one_only (alone m) (alone f.0) [] (sym r.all ∙ f.2)).1) in
      subst (λ (k : Molecule). Molfile limit ls (alone k)) e (subst (λ (t : List Line). Molfile limit t (alone f.0)) (append-nil ls) (Molfile.molfile f.1))

  accept_mol : {x : Raw} → Molfile limit ls x → run molfile limit first [] 1 ls ≡ at (over x.molecule) []
  accept_mol (Molfile.molfile {m = m} p) =
      let c = complete molfile limit first [] 1 ls (alone m ∷ []) (m, p, refl) in
      let k = c.ends.0 in
      let o = one_only (alone m) (alone k) c.ys (c.all ∙ ap (λ (z : List Raw). c.ys ++ z) c.ends.2) in
      c.is ∙ ap₂ at (c.ends.1 ∙ ap over (sym (molecule_of m k o.1))) o.0

  pub accepts_mol : (m : Molecule) → (run molfile limit first [] 1 ls ≡ at (over m) []) ↔ Molfile limit ls (record { molecule = m; items = [] })
  accepts_mol m = (accepted_mol m, accept_mol)
