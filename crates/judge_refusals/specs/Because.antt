-- Why lines are refused, in the words of the rules: lines of the right forms lead to a place, and the next line does not meet the first of these demands.
use Prim.Native.Nat.{ℕ, suc}
use Rattle.std.specs.Prelude.{◌≡◌}
use Rattle.std.proofs.Math.Path.{refl, subst}
use Rattle.std.proofs.Common.{sym, ◌∙◌}
use mathlib.Core.List.{List, [], ◌∷◌, ◌++◌}
use Rattle.std.proofs.Math.ListN.{length}
use Rattle.text.specs.Text.{Line}
use Rattle.rules.specs.Record.{Raw}
use Rattle.judge_line.specs.Got.{Got, got, bad}
use Rattle.judge_file.specs.Place.{FileKind, sdfile, Place, first, Turn, next, done, turn_of}
use Rattle.judge_file.specs.Takes.{Takes}
use Rattle.judge_file.proofs.Takes.{takes_turn, turn_takes}
use Rattle.judge_file.specs.Verdict.{at, run}
use Rattle.judge_file.specs.Runs.{at_stopped, at_place, at_records, run_next, run_stop}
use Rattle.judge_file.proofs.Runs.{run_done}
use Rattle.judge_refusals.specs.Demand.{Refused}
use Rattle.judge_refusals.specs.Demands.{demands}

module _ (kind : FileKind) (limit : ℕ) where
  -- from a place, with records finished before, lines of the forms that may stand there lead to a place and finish more records
  pub data Leads : Place → List Raw → List Line → Place → List Raw → Type 0 where
    none : {p : Place} {xs : List Raw} → Leads p xs [] p xs
    on : {p q r : Place} {xs ys : List Raw} {l : Line} {ls : List Line} → Takes kind limit p l (next q) → Leads q xs ls r ys → Leads p xs (l ∷ ls) r ys
    over : {p r : Place} {x : Raw} {xs ys : List Raw} {l : Line} {ls : List Line} →
        Takes kind limit p l (done x) → Leads first (xs ++ (x ∷ [])) ls r ys → Leads p xs (l ∷ ls) r ys

  pub leads_run : (i : ℕ) {p q : Place} {xs ys : List Raw} {ls : List Line} → Leads p xs ls q ys → run kind limit p xs i ls ≡ at q ys
  unfolding run
  leads_run i Leads.none = refl
  leads_run i {p = p} {xs = xs} (Leads.on {q = q} {l = l} {ls = ls} t h) = run_next kind limit p q xs i l ls (takes_turn kind limit t) ∙ leads_run (suc i) h
  leads_run i {p = p} {xs = xs} (Leads.over {x = x} {l = l} {ls = ls} t h) = run_done kind limit p x xs i l ls (takes_turn kind limit t) ∙ leads_run (suc i) h

  pub run_leads : (i : ℕ) (p q : Place) (xs ys : List Raw) (ls : List Line) → run kind limit p xs i ls ≡ at q ys → Leads p xs ls q ys
  unfolding run
  run_leads i p q xs ys [] h = subst (λ (r : Place). Leads p xs [] r ys) (at_place h) (subst (Leads p xs [] p) (at_records h) Leads.none)
  run_leads i p q xs ys (l ∷ ls) h = go (λ p' xs' h'. run_leads (suc i) p' q xs' ys ls h') (turn_of kind limit p l) refl
    where
      go : ((p' : Place) (xs' : List Raw) → run kind limit p' xs' (suc i) ls ≡ at q ys → Leads p' xs' ls q ys) → (x : Got Turn) →
          turn_of kind limit p l ≡ x → Leads p xs (l ∷ ls) q ys
      go r (got (next p')) e = Leads.on (turn_takes kind limit p l (next p') e) (r p' xs (sym (run_next kind limit p p' xs i l ls e) ∙ h))
      go r (got (done x)) e = Leads.over (turn_takes kind limit p l (done x) e) (r first (xs ++ (x ∷ [])) (sym (run_done kind limit p x xs i l ls e) ∙ h))
      go r (bad n c) e = at_stopped (sym h ∙ run_stop kind limit p xs i l ls n c e)

  -- line i of these is refused with number e at column c
  pub record Because (ls : List Line) (e i c : ℕ) : Type 0 where
    pub before : List Line
    pub l : Line
    pub after : List Line
    pub place : Place
    pub finished : List Raw
    pub whole : ls ≡ before ++ (l ∷ after)
    pub line : i ≡ suc (length before)
    pub stands : Leads first [] before place finished
    pub refused : Refused (demands limit place l) e c

-- ---- The first record of an SDfile

-- line i of these is refused, and no record is finished before it
pub record BecauseFirst (limit : ℕ) (ls : List Line) (e i c : ℕ) : Type 0 where
  pub why : Because sdfile limit ls e i c
  pub within_first : why.finished ≡ []
