-- The table of samples (`judge_file/specs/Samples`) in the words of the rules and of the table of refusals: one statement for all of it, from the one
-- computation there.
use Rattle.std.specs.Prelude.{ℕ, ◌≡◌, refl, ◌⊎◌, List, [], ◌∷◌, map, ℤ}
use Rattle.std.proofs.Common.{arith, sym, ap, subst, inl, inr}
use Rattle.text.specs.Text.{Bytes, Line, Lines}
use Rattle.rules.specs.Record.{Raw, limit}
use Rattle.rules.specs.Fields.{Every}
use Rattle.judge_file.specs.Place.{FileKind, molfile, sdfile}
use Rattle.judge_file.specs.Verdict.{Verdict, accepted, refused, verdict}
use Rattle.judge_file.specs.Ending.{Judged}
use Rattle.judge_file.proofs.Ending.{judged}
use Rattle.judge_file.proofs.Promise.{accepted_sd, accepted_mol, refused_text}
use Rattle.judge_file.specs.Samples.{Sample, show, samples, samples_judged}
use Rattle.judge_refusals.specs.Because.{Because}
use Rattle.judge_refusals.proofs.Because.{because_run}
use Rattle.judge_refusals.specs.SamplesHold.{Reads, Says, Holds}

-- ---- What the judge shows is so

module _ (s : Bytes) (look : List Raw → List ℤ) where
  reads : (kind : FileKind) (xs : List Raw) → verdict kind limit s ≡ accepted xs → Reads kind s look (look xs)
  reads molfile xs h = let g = (accepted_mol limit s xs).0 h in (g.0, (g.2, g.3, g.4), ap look (sym g.1))
  reads sdfile xs h = let g = (accepted_sd limit s xs).0 h in (xs, (g.0, g.1, g.2), refl)

  because : (kind : FileKind) {e i c : ℕ} → Judged limit s kind (refused e i c) → (e ≡ 19) ⊎ ((ls : List Line) × (rest : Bytes) × Lines s ls rest × Because kind limit ls e i c)
  because kind (Judged.stop {ls = ls} {rest = rest} {e = e} {i = i} {c = c} h r) = inr (ls, rest, h, (because_run kind limit ls e i c).0 r)
  because kind (Judged.short h r w) = inl refl

  says : (kind : FileKind) (v : Verdict (List Raw)) → verdict kind limit s ≡ v → Says kind s look (show look v)
  says kind (accepted xs) h = reads kind xs h
  says kind (refused e i c) h = (refused_text kind limit s (omega arith) e i c h, because kind (subst (Judged limit s kind) h (judged kind limit s)))

each_holds : (xs : List Sample) → map (λ s. show s.look (verdict s.kind limit s.text)) xs ≡ map (λ s. s.is) xs → Every Holds xs
unfolding Every
each_holds [] h = tt
each_holds (x ∷ xs) h =
    let e : show x.look (verdict x.kind limit x.text) ≡ x.is = cc in
    let r : map (λ s. show s.look (verdict s.kind limit s.text)) xs ≡ map (λ s. s.is) xs = cc in
    (subst (Says x.kind x.text x.look) e (says x.text x.look x.kind (verdict x.kind limit x.text) refl), each_holds xs r)

pub samples_hold : Every Holds samples
samples_hold = each_holds samples samples_judged
