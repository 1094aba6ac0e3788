-- Where the judge stops is the first line after which no further lines make a file; where it does not stop, some do.
use Rattle.std.specs.Prelude.{ℕ, ◌+◌, ◌≤◌, ◌≡◌, refl, List, [], ◌∷◌, ◌++◌, length}
use Rattle.std.proofs.Common.{sym, ap, ◌∙◌, subst, append_assoc, arith}
use Rattle.text.specs.Text.{Line}
use Rattle.rules.specs.Record.{Raw, Molfile}
use Rattle.rules.specs.Viable.{Viable, Dead, FirstDead}
use Rattle.judge_line.specs.Got.{bad}
use Rattle.judge_file.specs.Place.{FileKind, molfile, sdfile, Place, first, turn_of}
use Rattle.judge_file.specs.Verdict.{at, stopped, run}
use Rattle.judge_file.specs.From.{alone, FromFirst}
use Rattle.judge_file.specs.Runs.{End, at_stopped, at_place, run_stop}
use Rattle.judge_file.proofs.Runs.{complete, sound_run, rewind, run_append, stop}
use Rattle.judge_file.specs.Ahead.{ahead}
use Rattle.judge_file.specs.Refuse.{AFile, Finished}

from_first : (kind : FileKind) (limit : ℕ) (ls : List Line) (rs : List Raw) → FromFirst kind limit ls rs → AFile kind limit ls
from_first molfile limit ls rs f = (alone f.0, Molfile.molfile f.1)
from_first sdfile limit ls rs f = (rs, f)

first_from_lem : (kind : FileKind) (limit : ℕ) (ls : List Line) → AFile kind limit ls → (rs : List Raw) × FromFirst kind limit ls rs
first_from_lem molfile limit ls f = go f.1
  where
    go : {x : Raw} → Molfile limit ls x → (rs : List Raw) × FromFirst molfile limit ls rs
    go (Molfile.molfile {m = m} p) = (alone m ∷ [], (m, p, refl))
first_from_lem sdfile limit ls f = f

module _ (kind : FileKind) (limit : ℕ) where
  pub file_run : (ls : List Line) → AFile kind limit ls → Finished kind limit ls
  file_run ls f =
      let g = first_from_lem kind limit ls f in
      let c = complete kind limit first [] 1 ls g.0 g.1 in
      record { q = c.q; ys = c.ys; zs = c.zs; is = c.is; ends = c.ends }

  -- lines that the judge takes can be finished
  pub run_viable : limit ≤ 999 → (ls : List Line) (q : Place) (ys : List Raw) → run kind limit first [] 1 ls ≡ at q ys → Viable (AFile kind limit) ls
  run_viable small ls q ys h =
      let a = ahead kind limit small q (sound_run kind limit first [] 1 ls q ys tt h) in
      let r = rewind kind limit first [] 1 ls q ys tt h a.t (a.x ∷ []) a.from in
      (a.t, from_first kind limit (ls ++ a.t) r.zs r.from)

  -- a line that it refuses ends that
  pub run_dead : (ls : List Line) (q : Place) (ys : List Raw) (l : Line) (e c : ℕ) →
      run kind limit first [] 1 ls ≡ at q ys → turn_of kind limit q l ≡ bad e c → Dead (AFile kind limit) (ls ++ (l ∷ []))
  run_dead ls q ys l e c h refused more f =
      let g = file_run ((ls ++ (l ∷ [])) ++ more) f in
      at_stopped
      (sym g.is
      ∙ ap (run kind limit first [] 1) (append_assoc ls (l ∷ []) more)
      ∙ run_append kind limit first [] 1 ls q ys h (l ∷ more)
      ∙ run_stop kind limit q ys (1 + length ls) l more e c refused)

  pub refuses : limit ≤ 999 → (ls : List Line) (e k c : ℕ) → run kind limit first [] 1 ls ≡ stopped e k c → FirstDead (AFile kind limit) ls k
  refuses small ls e k c h =
      let s = stop kind limit first [] 1 ls e k c h in
      record {
        before = s.before;
        l = s.l;
        after = s.after;
        whole = s.whole;
        line = s.line ∙ omega arith;
        open_before = run_viable small s.before s.q s.ys s.reached;
        shut_here = run_dead s.before s.q s.ys s.l e c s.reached s.refused;
      }

  -- lines that end where no file may end are no file
  pub run_short : (ls : List Line) (q : Place) (ys : List Raw) → run kind limit first [] 1 ls ≡ at q ys → ((zs : List Raw) → ¬ End kind q zs) →
      ¬ AFile kind limit ls
  run_short ls q ys h no_end f =
      let g = file_run ls f in
      no_end g.zs (subst (λ (p : Place). End kind p g.zs) (at_place (sym g.is ∙ h)) g.ends)
