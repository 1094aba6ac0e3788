-- The judge's verdict on a text, in the words of the rules: good texts and their records, and the line that a refusal names.
use Rattle.std.specs.Prelude.{ℕ, ◌≤◌, ◌≡◌, refl, ◌↔◌, List, [], ◌∷◌}
use Rattle.std.proofs.Common.{sym, ap, ◌∙◌, subst}
use Rattle.text.specs.Text.{Bytes, Line, Lines}
use Rattle.rules.specs.Record.{Raw, Molfile, SDfile}
use Rattle.judge_file.specs.Place.{FileKind, molfile, sdfile, Place, first, over}
use Rattle.judge_file.specs.Verdict.{at, accepted, refused, verdict}
use Rattle.judge_file.specs.From.{alone}
use Rattle.judge_file.proofs.Agree.{accepts_sd, accepts_mol, none_before}
use Rattle.judge_file.specs.Runs.{End, at_place}
use Rattle.judge_file.proofs.Runs.{stop}
use Rattle.judge_file.proofs.Marked.{refused_marked}
use Rattle.judge_file.specs.Refuse.{Finished}
use Rattle.judge_file.proofs.Refuse.{file_run, run_viable, refuses}
use Rattle.judge_file.specs.Ending.{Judged, verdict_lines}
use Rattle.judge_file.proofs.Ending.{judged}
use Rattle.judge_file.specs.Promise.{Refusal, not_good}

-- ---- Good texts

module _ (limit : ℕ) (s : Bytes) where
  good_sd : {xs : List Raw} → Judged limit s sdfile (accepted xs) → (ls : List Line) × Lines s ls [] × SDfile limit ls xs
  good_sd {xs = xs} (Judged.good_sd {ls = ls} h r) = (ls, h, (accepts_sd limit ls xs).0 r)

  pub accepted_sd : (xs : List Raw) → (verdict sdfile limit s ≡ accepted xs) ↔ ((ls : List Line) × Lines s ls [] × SDfile limit ls xs)
  accepted_sd xs = (to, back)
    where
      to : verdict sdfile limit s ≡ accepted xs → (ls : List Line) × Lines s ls [] × SDfile limit ls xs
      to h = good_sd (subst (Judged limit s sdfile) h (judged sdfile limit s))

      back : ((ls : List Line) × Lines s ls [] × SDfile limit ls xs) → verdict sdfile limit s ≡ accepted xs
      back g = verdict_lines sdfile limit g.1 ∙ rw ((accepts_sd limit g.0 xs).1 g.2)

  good_mol : {xs : List Raw} → Judged limit s molfile (accepted xs) → (x : Raw) × (xs ≡ x ∷ []) × (ls : List Line) × Lines s ls [] × Molfile limit ls x
  good_mol (Judged.good_mol {ls = ls} {m = m} {xs = ys} h r) =
      (alone m, refl, ls, h, (accepts_mol limit ls m).0 (r ∙ ap (at (over m)) (none_before limit ls m ys r)))

  pub accepted_mol : (xs : List Raw) →
      (verdict molfile limit s ≡ accepted xs) ↔ ((x : Raw) × (xs ≡ x ∷ []) × (ls : List Line) × Lines s ls [] × Molfile limit ls x)
  accepted_mol xs = (to, back)
    where
      to : verdict molfile limit s ≡ accepted xs → (x : Raw) × (xs ≡ x ∷ []) × (ls : List Line) × Lines s ls [] × Molfile limit ls x
      to h = good_mol (subst (Judged limit s molfile) h (judged molfile limit s))

      found : {ls : List Line} {x : Raw} → Lines s ls [] → Molfile limit ls x → verdict molfile limit s ≡ accepted (x ∷ [])
      found {ls = ls} h (Molfile.molfile {m = m} p) = verdict_lines molfile limit h ∙ rw ((accepts_mol limit ls m).1 (Molfile.molfile p))

      back : ((x : Raw) × (xs ≡ x ∷ []) × (ls : List Line) × Lines s ls [] × Molfile limit ls x) → verdict molfile limit s ≡ accepted xs
      back g = found g.3 g.4 ∙ ap accepted (sym g.1)

-- ---- Refused texts

refusal : {kind : FileKind} {limit : ℕ} {s : Bytes} {e i column : ℕ} → limit ≤ 999 → Judged limit s kind (refused e i column) → Refusal kind limit s e i column
refusal {kind} {limit} {s} small (Judged.short {ls = ls} {rest = rest} {p = p} {xs = xs} h r w) =
    Refusal.cut_short h (run_viable kind limit small ls p xs r) (not_good kind limit s h (λ g. ended g.0 (file_run kind limit ls g.1)))
  where
    ended : rest ≡ [] → Finished kind limit ls → ⊥
    ended none f = w (f.zs, subst (λ (q : Place). End kind q f.zs) (at_place (sym f.is ∙ r)) f.ends, none)
refusal {kind} {limit} small (Judged.stop {ls = ls} {e = e} {i = i} {c = c} h r) =
    let st = stop kind limit first [] 1 ls e i c r in
    let m = refused_marked kind limit st.q st.l e c st.refused in
    Refusal.line h m.0 m.1 (refuses kind limit small ls e i c r)

module _ (kind : FileKind) (limit : ℕ) (s : Bytes) where
  pub refused_text : limit ≤ 999 → (e i column : ℕ) → verdict kind limit s ≡ refused e i column → Refusal kind limit s e i column
  refused_text small e i column h = refusal {kind = kind} {limit = limit} {s = s} small (subst (Judged limit s kind) h (judged kind limit s))
