-- Why lines are refused, in the words of the rules: lines of the right forms lead to a place, and the next line does not meet the first of these demands.
use Prim.Native.Nat.{ℕ, suc, ◌+◌, ◌≤◌}
use Rattle.std.specs.Prelude.{◌≡◌, ◌↔◌}
use Rattle.std.proofs.Math.Path.{refl, subst}
use Rattle.std.proofs.Common.{sym, ap, ◌∙◌}
use mathlib.Core.List.{List, [], ◌∷◌, ◌++◌}
use Rattle.std.proofs.Math.ListN.{length, length-append}
use native.Mathlib.Omega.{arith}
use Rattle.text.specs.Text.{Line}
use Rattle.rules.specs.Record.{Raw}
use Rattle.judge_file.specs.Place.{FileKind, sdfile, Place, first}
use Rattle.judge_file.proofs.Takes.{takes_turn}
use Rattle.judge_file.specs.Verdict.{stopped, run}
use Rattle.judge_file.specs.Runs.{Stop, run_stop}
use Rattle.judge_file.proofs.Runs.{stop, run_append}
use Rattle.judge_file.specs.One.{One, one_from, one_record}
use Rattle.judge_file.specs.OneRun.{Same, one_stop}
use Rattle.judge_file.proofs.OneRun.{same, grows}
use Rattle.judge_refusals.proofs.Places.{refused_because}
use Rattle.judge_refusals.specs.Because.{Leads, leads_run, run_leads, Because, BecauseFirst}

module _ (kind : FileKind) (limit : ℕ) where
  pub stop_because : (ls : List Line) (e i c : ℕ) → Stop kind limit first [] 1 ls e i c ↔ Because kind limit ls e i c
  stop_because ls e i c = (
    λ s. record {
      before = s.before;
      l = s.l;
      after = s.after;
      place = s.q;
      finished = s.ys;
      whole = s.whole;
      line = s.line ∙ omega arith;
      stands = run_leads kind limit 1 first s.q [] s.ys s.before s.reached;
      refused = (refused_because kind limit s.q s.l e c).0 s.refused;
    },
    λ b. record {
      before = b.before;
      l = b.l;
      after = b.after;
      q = b.place;
      ys = b.finished;
      whole = b.whole;
      line = b.line ∙ omega arith;
      reached = leads_run kind limit 1 b.stands;
      refused = (refused_because kind limit b.place b.l e c).1 b.refused;
    },
  )

  -- so the judge stops there, and nowhere else: there is one refusal at most
  pub because_run : (ls : List Line) (e i c : ℕ) → (run kind limit first [] 1 ls ≡ stopped e i c) ↔ Because kind limit ls e i c
  because_run ls e i c = (λ h. (stop_because ls e i c).0 (stop kind limit first [] 1 ls e i c h), back)
    where
      back : Because kind limit ls e i c → run kind limit first [] 1 ls ≡ stopped e i c
      back b =
          let s = (stop_because ls e i c).1 b in
          ap (run kind limit first [] 1) s.whole
          ∙ run_append kind limit first [] 1 s.before s.q s.ys s.reached (s.l ∷ s.after)
          ∙ run_stop kind limit s.q s.ys (1 + length s.before) s.l s.after e c s.refused
          ∙ ap (λ (k : ℕ). stopped e k c) (sym s.line)

  pub because_one : (ls : List Line) (e i c e' i' c' : ℕ) → Because kind limit ls e i c → Because kind limit ls e' i' c' → (e ≡ e') × (i ≡ i') × (c ≡ c')
  because_one ls e i c e' i' c' a b =
      let h : stopped e i c ≡ stopped e' i' c' = sym ((because_run ls e i c).1 a) ∙ (because_run ls e' i' c').1 b in
      (cc, cc, cc)

-- ---- The first record of an SDfile

module _ (limit : ℕ) where
  one_on : (i : ℕ) {p q : Place} {xs ys : List Raw} {ls : List Line} → Leads sdfile limit p xs ls q ys → length ys ≤ length xs → (t : List Line) →
      one_from limit p i (ls ++ t) ≡ one_from limit q (i + length ls) t
  unfolding one_from
  one_on i {p = p} Leads.none few t = let n : i + 0 ≡ i = omega arith in rw n
  one_on i {q = r} (Leads.on {q = q} {ls = ls} k h) few t =
      let n : i + suc (length ls) ≡ suc i + length ls = omega arith in
      rw (takes_turn sdfile limit k, one_from, n) (one_on (suc i) h few t)
  one_on i {q = r} {xs = xs} {ys = ys} (Leads.over {x = x} {ls = ls} k h) few t =
      absurd (omega (arith, grows limit first (xs ++ (x ∷ [])) i ls r ys (leads_run sdfile limit i h), length-append xs (x ∷ [])))

  pub one_because : (ls : List Line) (e i c : ℕ) → (one_record limit ls ≡ One.refused e i c) ↔ BecauseFirst limit ls e i c
  unfolding one_record
  one_because ls e i c = (to, back)
    where
      to : one_from limit first 1 ls ≡ One.refused e i c → BecauseFirst limit ls e i c
      to h =
          let s = subst (Same limit first [] 1 1 ls) h (same limit first [] 1 1 ls) in
          record {
            why = record {
              before = s.0;
              l = s.1;
              after = s.2;
              place = s.3;
              finished = [];
              whole = s.4;
              line = s.5 ∙ omega arith;
              stands = run_leads sdfile limit 1 first s.3 [] [] s.0 s.6;
              refused = (refused_because sdfile limit s.3 s.1 e c).0 s.7;
            };
            within_first = refl;
          }

      back : BecauseFirst limit ls e i c → one_from limit first 1 ls ≡ One.refused e i c
      back b =
          let w = b.why in
          let n : 1 + length w.before ≡ i = omega (arith, w.line) in
          ap (one_from limit first 1) w.whole
          ∙ one_on 1 w.stands (omega (arith, ap length b.within_first)) (w.l ∷ w.after)
          ∙ one_stop limit w.place (1 + length w.before) w.l w.after e c ((refused_because sdfile limit w.place w.l e c).1 w.refused)
          ∙ ap (λ (j : ℕ). One.refused e j c) n
