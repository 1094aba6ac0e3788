-- The promise of the check, in the words of the rules: when a text is accepted, and which line a refusal names. There is one answer for every text.
use Rattle.std.specs.Prelude.{ℕ, zero, suc, ◌+◌, ◌≤◌, ◌≡◌, refl, ◌↔◌, List, [], ◌∷◌, length}
use Rattle.std.proofs.Common.{arith, sym, ap, ◌∙◌, subst}
use Rattle.text.specs.Text.{Bytes, Line, Lines}
use Rattle.text.specs.Cut.{lines_same}
use Rattle.rules.specs.Record.{Raw, GoodMolfile, GoodSDfile, limit}
use Rattle.rules.specs.Viable.{Viable, FirstDead, first_dead}
use Rattle.judge_file.specs.Place.{FileKind, molfile, sdfile, first}
use Rattle.judge_file.specs.Verdict.{stopped, run, Verdict, accepted, refused, mapped, verdict}
use Rattle.judge_file.specs.SameVerdict.{accepted_refused, same_reason}
use Rattle.judge_file.specs.Runs.{run_stop}
use Rattle.judge_file.proofs.Runs.{stop, run_append}
use Rattle.judge_file.specs.Refuse.{AFile}
use Rattle.judge_file.proofs.Refuse.{refuses}
use Rattle.judge_file.proofs.Marked.{refused_marked}
use Rattle.judge_file.specs.Ending.{Judged}
use Rattle.judge_file.proofs.Ending.{judged}
use Rattle.judge_refusals.specs.Because.{Because}
use Rattle.judge_refusals.proofs.Because.{stop_because}
use Rattle.judge_file.specs.Promise.{Good, Refusal, refusal_bad}
use Rattle.judge_file.proofs.Promise.{accepted_sd, accepted_mol, refused_text}

-- ---- The promise: what is said of a text is how many records it has, or number, line and column of a refusal

-- by the rules the text stands for so many records, and nothing unfinished follows them
abbrev pub Records : FileKind → Bytes → ℕ → Type 0
Records molfile s count = (x : Raw) × GoodMolfile s x × (count ≡ 1)
Records sdfile s count = (xs : List Raw) × GoodSDfile s xs × (count ≡ length xs)

-- Numbers 3 to 18 name the first line after which no further lines make a file; number and column are those of the first demand that it does not meet.
-- Number 19 names the line after the complete ones: these can be finished, so none of them is such a line, and the text is not good.
pub data RefusedAt (kind : FileKind) (s : Bytes) : ℕ → ℕ → ℕ → Type 0 where
  line : {ls : List Line} {rest : Bytes} {e i column : ℕ} → Lines s ls rest → (3 ≤ e) × (e ≤ 18) → 1 ≤ column →
      FirstDead (AFile kind limit) ls i → Because kind limit ls e i column → RefusedAt kind s e i column
  cut_short : {ls : List Line} {rest : Bytes} → Lines s ls rest → Viable (AFile kind limit) ls → ¬ Good kind limit s →
      RefusedAt kind s 19 (suc (length ls)) 1

pub record Checked (kind : FileKind) (s : Bytes) (r : Verdict ℕ) : Type 0 where
  pub accepts : (count : ℕ) → (r ≡ accepted count) ↔ Records kind s count
  pub refuses : (e i column : ℕ) → r ≡ refused e i column → RefusedAt kind s e i column

-- kind 0 is a molfile, kind 1 an SDfile; any other is number 1, without a line
abbrev pub CheckedAs : ℕ → Bytes → Verdict ℕ → Type 0
CheckedAs zero s r = Checked molfile s r
CheckedAs (suc zero) s r = Checked sdfile s r
CheckedAs (suc (suc kind)) s r = r ≡ refused 1 0 0

-- ---- The judge's verdict keeps it

abbrev pub said_by : Verdict (List Raw) → Verdict ℕ
said_by v = mapped length v

module _ (s : Bytes) where
  counted : (kind : FileKind) (xs : List Raw) (count : ℕ) → verdict kind limit s ≡ accepted xs → accepted (length xs) ≡ accepted count → Records kind s count
  counted molfile xs count h e =
      let g = (accepted_mol limit s xs).0 h in
      let n : count ≡ length xs = cc in
      (g.0, (g.2, g.3, g.4), n ∙ ap length g.1)
  counted sdfile xs count h e =
      let g = (accepted_sd limit s xs).0 h in
      let n : count ≡ length xs = cc in
      (xs, (g.0, g.1, g.2), n)

  found : (kind : FileKind) (count : ℕ) → Records kind s count → said_by (verdict kind limit s) ≡ accepted count
  found molfile count g =
      ap said_by ((accepted_mol limit s (g.0 ∷ [])).1 (g.0, refl, g.1.0, g.1.1, g.1.2)) ∙ ap accepted (sym g.2)
  found sdfile count g = ap said_by ((accepted_sd limit s g.0).1 (g.1.0, g.1.1, g.1.2)) ∙ ap accepted (sym g.2)

  stops : (kind : FileKind) {e i column : ℕ} → Judged limit s kind (refused e i column) → Refusal kind limit s e i column → RefusedAt kind s e i column
  stops kind {e = e} {i = i} {column = column} (Judged.stop {ls = ls} h r) f =
      let st = stop kind limit first [] 1 ls e i column r in
      let m = refused_marked kind limit st.q st.l e column st.refused in
      RefusedAt.line h m.0 m.1 (refuses kind limit (omega arith) ls e i column r) ((stop_because kind limit ls e i column).0 st)
  stops kind (Judged.short h r w) f = cut f
    where
      cut : {i : ℕ} → Refusal kind limit s 19 i 1 → RefusedAt kind s 19 i 1
      cut (Refusal.line h m c d) = absurd (omega (arith, m.1))
      cut (Refusal.cut_short h v bad) = RefusedAt.cut_short h v bad

  pub verdict_checked : (kind : FileKind) → Checked kind s (said_by (verdict kind limit s))
  verdict_checked kind =
      record {
        accepts = λ count. (to count (verdict kind limit s) refl, found kind count);
        refuses = λ e i column. off e i column (verdict kind limit s) refl;
      }
    where
      to : (count : ℕ) (v : Verdict (List Raw)) → verdict kind limit s ≡ v → said_by v ≡ accepted count → Records kind s count
      to count (accepted xs) h e = counted kind xs count h e
      to count (refused n i c) h e = accepted_refused (sym e)

      off : (e i column : ℕ) (v : Verdict (List Raw)) → verdict kind limit s ≡ v → said_by v ≡ refused e i column → RefusedAt kind s e i column
      off e i column (accepted xs) h q = accepted_refused q
      off e i column (refused n j c) h q =
          let v : verdict kind limit s ≡ refused e i column = same_reason (λ (n j c : ℕ). verdict kind limit s ≡ refused n j c) q h in
          stops kind (subst (Judged limit s kind) v (judged kind limit s)) (refused_text kind limit s (omega arith) e i column v)

-- ---- One answer for every text

module _ (kind : FileKind) (s : Bytes) where
  -- where the judge stops
  stop_run : (ls : List Line) (e i column : ℕ) → Because kind limit ls e i column → run kind limit first [] 1 ls ≡ stopped e i column
  stop_run ls e i column why =
      let st = (stop_because kind limit ls e i column).1 why in
      ap (run kind limit first [] 1) st.whole
      ∙ run_append kind limit first [] 1 st.before st.q st.ys st.reached (st.l ∷ st.after)
      ∙ run_stop kind limit st.q st.ys (1 + length st.before) st.l st.after e column st.refused
      ∙ ap (λ (k : ℕ). stopped e k column) (sym st.line)

  pub same_refusal : {A : Type 0} {e i c e' i' c' : ℕ} → RefusedAt kind s e i c → RefusedAt kind s e' i' c' → ◌≡◌ {A = Verdict A} (refused e i c) (refused e' i' c')
  same_refusal {e = e} {i = i} {c = c} {e' = e'} {i' = i'} {c' = c'} (RefusedAt.line {ls = ls} h m k f st) (RefusedAt.line {ls = ls'} h' m' k' f' st') =
      let same = (lines_same h h').0 in
      let r : stopped e i c ≡ stopped e' i' c' =
      sym (stop_run ls e i c st) ∙ ap (run kind limit first [] 1) same ∙ stop_run ls' e' i' c' st' in
      cc
  same_refusal (RefusedAt.line {ls = ls} {i = i} h m k f st) (RefusedAt.cut_short h' v bad) =
      let w = subst (Viable (AFile kind limit)) (sym (lines_same h h').0) v in
      absurd (first_dead (AFile kind limit) ls i f w.0 w.1)
  same_refusal (RefusedAt.cut_short h v bad) (RefusedAt.line {ls = ls'} {i = i'} h' m' k' f' st') =
      let w = subst (Viable (AFile kind limit)) (lines_same h h').0 v in
      absurd (first_dead (AFile kind limit) ls' i' f' w.0 w.1)
  same_refusal (RefusedAt.cut_short h v bad) (RefusedAt.cut_short h' v' bad') = ap (λ (ls : List Line). refused 19 (suc (length ls)) 1) (lines_same h h').0

  same_answer : (r r' : Verdict ℕ) → Checked kind s r → Checked kind s r' → r ≡ r'
  same_answer (accepted n) r' a b = sym ((b.accepts n).1 ((a.accepts n).0 refl))
  same_answer (refused e i c) (accepted n) a b = (a.accepts n).1 ((b.accepts n).0 refl)
  same_answer (refused e i c) (refused e' i' c') a b = same_refusal (a.refuses e i c refl) (b.refuses e' i' c' refl)

pub checked_one : (kind : ℕ) (s : Bytes) (r r' : Verdict ℕ) → CheckedAs kind s r → CheckedAs kind s r' → r ≡ r'
checked_one zero s r r' a b = same_answer molfile s r r' a b
checked_one (suc zero) s r r' a b = same_answer sdfile s r r' a b
checked_one (suc (suc kind)) s r r' a b = a ∙ sym b

-- ---- The judge refuses as the rules say, and only so

-- a refused text is not good
pub refused_bad : {kind : FileKind} {s : Bytes} {e i c : ℕ} → RefusedAt kind s e i c → ¬ Good kind limit s
refused_bad {kind = kind} {s = s} (RefusedAt.line h m c f why) = refusal_bad kind limit s (Refusal.line h m c f)
refused_bad (RefusedAt.cut_short h v bad) = bad

module _ (s : Bytes) where
  pub refused_at_lem : (e i c : ℕ) → verdict sdfile limit s ≡ refused e i c → RefusedAt sdfile s e i c
  refused_at_lem e i c h = (verdict_checked s sdfile).refuses e i c (ap said_by h)

  pub at_refused : (e i c : ℕ) → RefusedAt sdfile s e i c → verdict sdfile limit s ≡ refused e i c
  at_refused e i c r = go (verdict sdfile limit s) refl
    where
      go : (v : Verdict (List Raw)) → verdict sdfile limit s ≡ v → verdict sdfile limit s ≡ refused e i c
      go (accepted xs) h = let g = (accepted_sd limit s xs).0 h in absurd (refused_bad r (g.0, g.1, (xs, g.2)))
      go (refused n j d) h = h ∙ same_refusal sdfile s (refused_at_lem n j d h) r
