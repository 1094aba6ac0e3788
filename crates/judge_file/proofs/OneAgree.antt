-- One record read from the front of some lines is what the rules call a record; what is refused is the first line after which no lines finish a record.
use Rattle.std.specs.Prelude.{ℕ, suc, ◌+◌, ◌≤◌, ◌≡◌, ◌↔◌, drop}
use Rattle.std.proofs.Common.{sym, ◌∙◌, drop_at, arith}
use Rattle.std.proofs.Math.Path.{ap, subst}
use mathlib.Core.List.{List, [], ◌∷◌, ◌++◌, append-nil}
use Rattle.std.proofs.Math.ListN.{length, length-append}
use Rattle.text.specs.Text.{Line}
use Rattle.rules.specs.Record.{Raw, Record, SDfile}
use Rattle.rules.specs.Viable.{Viable, FirstDead, ARecord}
use Rattle.rules.specs.PartLaws.{file_record}
use Rattle.judge_file.specs.Place.{Place, first, sdfile}
use Rattle.judge_file.specs.Verdict.{at, run}
use Rattle.judge_file.proofs.Runs.{sound_run, rewind, run_append}
use Rattle.judge_file.proofs.Agree.{accepts_sd}
use Rattle.judge_file.specs.Ahead.{ahead}
use Rattle.judge_file.proofs.Marked.{refused_marked}
use Rattle.judge_file.proofs.Refuse.{run_dead}
use Rattle.judge_file.specs.Front.{record_front, record_before}
use Rattle.judge_file.specs.One.{One, whole, refused, short, one_record}
use Rattle.judge_file.specs.OneRun.{Same}
use Rattle.judge_file.proofs.OneRun.{same, grows, follow}

module _ (limit : ℕ) where
  record_file : {ls : List Line} {x : Raw} → Record limit ls x [] → SDfile limit ls (x ∷ [])
  record_file r = SDfile.more r SDfile.none

  same_one : (ls : List Line) (o : One) → one_record limit ls ≡ o → Same limit first [] 1 1 ls o
  unfolding one_record
  same_one ls o h = subst (Same limit first [] 1 1 ls) h (same limit first [] 1 1 ls)

  -- ---- A whole record

  found : (ls : List Line) (x : Raw) (k : ℕ) (rest : List Line) → one_record limit ls ≡ whole x k rest → Record limit ls x rest × (k + length rest ≡ length ls)
  found ls x k rest h =
      let s = same_one ls (whole x k rest) h in
      let r = record_before (file_record ((accepts_sd limit s.0 (x ∷ [])).0 s.3)) rest in
      (subst (λ (t : List Line). Record limit t x rest) (sym s.1) r, omega (arith, s.2, ap length s.1, length-append s.0 rest))

  -- the lines after a record are those past its number of lines
  pub one_rest : (ls : List Line) (x : Raw) (k : ℕ) (rest : List Line) → one_record limit ls ≡ whole x k rest → rest ≡ drop k ls
  one_rest ls x k rest h =
      let s = same_one ls (whole x k rest) h in
      let n : length s.0 ≡ k = omega (arith, s.2) in
      sym (ap (drop k) s.1 ∙ drop_at s.0 rest k n)

  -- the run over a record's own lines
  record_run : {ls : List Line} {x : Raw} → Record limit ls x [] → run sdfile limit first [] 1 ls ≡ at first (x ∷ [])
  record_run {ls = ls} {x = x} r = (accepts_sd limit ls (x ∷ [])).1 (record_file r)

  -- a record's own lines, before the rest
  own : {ls : List Line} {x : Raw} {rest : List Line} → Record limit ls x rest → (before : List Line) × (ls ≡ before ++ rest) × Record limit before x []
  own {x = x} r =
      let f = record_front r in
      (f.before, f.parts, subst (λ (t : List Line). Record limit t x []) (append-nil f.before) (f.any []))

  find : (ls : List Line) (x : Raw) (k : ℕ) (rest : List Line) → Record limit ls x rest → k + length rest ≡ length ls → one_record limit ls ≡ whole x k rest
  unfolding one_record
  find ls x k rest r n =
      let o = own r in
      let f = follow limit first [] 1 1 o.0 rest x (record_run o.2) in
      let e : f.k ≡ k = omega (arith, f.lines, n, ap length o.1, length-append o.0 rest) in
      rw o.1 (f.is ∙ ap (λ (j : ℕ). whole x j rest) e)

  pub one_whole : (ls : List Line) (x : Raw) (k : ℕ) (rest : List Line) →
      (one_record limit ls ≡ whole x k rest) ↔ (Record limit ls x rest × (k + length rest ≡ length ls))
  one_whole ls x k rest = (found ls x k rest, λ h. find ls x k rest h.0 h.1)

  -- ---- No record yet, or never

  open_yet : limit ≤ 999 → (ls : List Line) (q : Place) → run sdfile limit first [] 1 ls ≡ at q [] → Viable (ARecord limit) ls
  open_yet small ls q h =
      let a = ahead sdfile limit small q (sound_run sdfile limit first [] 1 ls q [] tt h) in
      let r = rewind sdfile limit first [] 1 ls q [] tt h a.t (a.x ∷ []) a.from in
      (a.t, (a.x, file_record (subst (SDfile limit (ls ++ a.t)) r.all r.from)))

  pub one_refused : limit ≤ 999 → (ls : List Line) (e k column : ℕ) → one_record limit ls ≡ refused e k column →
      ((3 ≤ e) × (e ≤ 18)) × (1 ≤ column) × FirstDead (ARecord limit) ls k
  one_refused small ls e k column h =
      let s = same_one ls (refused e k column) h in
      let m = refused_marked sdfile limit s.3 s.1 e column s.7 in (
        m.0,
        m.1,
        record {
          before = s.0;
          l = s.1;
          after = s.2;
          whole = s.4;
          line = s.5 ∙ omega arith;
          open_before = open_yet small s.0 s.3 s.6;
          shut_here = λ more f. run_dead sdfile limit s.0 s.3 [] s.1 e column s.6 s.7 more (f.0 ∷ [], record_file f.1);
        },
      )

  pub one_short : limit ≤ 999 → (ls : List Line) (k : ℕ) → one_record limit ls ≡ short k →
      (k ≡ suc (length ls)) × Viable (ARecord limit) ls × ¬ ((x : Raw) × (rest : List Line) × Record limit ls x rest)
  one_short small ls k h =
      let s = same_one ls (short k) h in
      (s.1 ∙ omega arith, open_yet small ls s.0 s.2, λ r. none s.0 s.2 (own r.2))
    where
      none : {x : Raw} {rest : List Line} (q : Place) → run sdfile limit first [] 1 ls ≡ at q [] →
          ((before : List Line) × (ls ≡ before ++ rest) × Record limit before x []) → ⊥
      none {x = x} {rest = rest} q g o =
          let r = run_append sdfile limit first [] 1 o.0 first (x ∷ []) (record_run o.2) rest in
          omega (arith, grows limit first (x ∷ []) (1 + length o.0) rest q [] (sym r ∙ ap (run sdfile limit first [] 1) (sym o.1) ∙ g))
