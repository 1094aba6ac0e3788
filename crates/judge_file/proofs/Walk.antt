-- An SDfile walked record by record: its verdict is that of its first record, and then of the rest, with lines added up.
use Rattle.std.specs.Prelude.{ℕ, suc, ◌+◌, ◌-◌, ◌<◌, ◌≡◌, refl, List, [], ◌∷◌, ◌++◌}
use Rattle.std.proofs.Math.Path.{ap, ap₂, subst}
use Rattle.std.proofs.Common.{◌∙◌, arith}
use Rattle.std.proofs.Math.ListN.{length, length-append}
use Rattle.text.specs.Text.{Bytes, Line}
use Rattle.text.specs.Cut.{cut}
use Rattle.rules.specs.Record.{Raw}
use Rattle.judge_file.specs.Place.{Place, first, sdfile}
use Rattle.judge_file.specs.Verdict.{Run, at, stopped, run, Verdict, finish, conclude, verdict}
use Rattle.judge_file.specs.Runs.{run_stop}
use Rattle.judge_file.proofs.Runs.{run_append}
use Rattle.judge_file.specs.Ending.{Ending}
use Rattle.judge_file.proofs.Ending.{ending}
use Rattle.judge_file.specs.One.{One, whole, refused, short, one_record}
use Rattle.judge_file.specs.OneRun.{Same}
use Rattle.judge_file.proofs.OneRun.{same, grows_more}
use Rattle.judge_file.specs.Walk.{file_from}

pub verdict_from_lem : (limit : ℕ) (s : Bytes) → verdict sdfile limit s ≡ file_from limit [] 1 (cut s).lines (cut s).rest
unfolding verdict file_from
verdict_from_lem limit s =
    let e : suc (length (cut s).lines) ≡ 1 + length (cut s).lines = omega arith in
    ap (conclude sdfile (run sdfile limit first [] 1 (cut s).lines) (cut s).rest) e

module _ (limit : ℕ) (xs : List Raw) (i : ℕ) (ls : List Line) (rest : Bytes) where
  same_one : (o : One) → one_record limit ls ≡ o → Same limit first xs i 1 ls o
  unfolding one_record
  same_one o h = subst (Same limit first xs i 1 ls) h (same limit first xs i 1 ls)

  -- the first record is whole: go on after it
  pub walk_whole : (x : Raw) (k : ℕ) (more : List Line) → one_record limit ls ≡ whole x k more →
      file_from limit xs i ls rest ≡ file_from limit (xs ++ (x ∷ [])) (i + k) more rest
  unfolding file_from
  walk_whole x k more h =
      let s = same_one (whole x k more) h in
      let n : i + length s.0 ≡ i + k = omega (arith, s.2) in
      let m : i + length ls ≡ i + k + length more = omega (arith, s.2, ap length s.1, length-append s.0 more) in
      let r : run sdfile limit first xs i ls ≡ run sdfile limit first (xs ++ (x ∷ [])) (i + k) more =
      ap (run sdfile limit first xs i) s.1
      ∙ run_append sdfile limit first xs i s.0 first (xs ++ (x ∷ [])) s.3 more
      ∙ ap (λ (j : ℕ). run sdfile limit first (xs ++ (x ∷ [])) j more) n
      in
      ap₂ (λ u j. conclude sdfile u rest j) r m

  -- it is refused: so is the file
  pub walk_refused : (e k column : ℕ) → one_record limit ls ≡ refused e k column → file_from limit xs i ls rest ≡ Verdict.refused e (i + k - 1) column
  unfolding file_from
  walk_refused e k column h =
      let s = same_one (refused e k column) h in
      let n : i + length s.0 ≡ i + k - 1 = omega (arith, s.5) in
      let r : run sdfile limit first xs i ls ≡ stopped e (i + k - 1) column =
      ap (run sdfile limit first xs i) s.4
      ∙ run_append sdfile limit first xs i s.0 s.3 xs s.6 (s.1 ∷ s.2)
      ∙ run_stop sdfile limit s.3 xs (i + length s.0) s.1 s.2 e column s.7
      ∙ ap (λ (j : ℕ). stopped e j column) n
      in
      ap (λ (u : Run). conclude sdfile u rest (i + length ls)) r

  cut_short : (q : Place) → run sdfile limit first xs i ls ≡ at q xs → 0 < length ls + length rest →
      finish sdfile q xs rest (i + length ls) ≡ Verdict.refused 19 (i + length ls) 1
  cut_short q r some = go (ending sdfile q xs rest (i + length ls)) refl r some
    where
      empty : (t : List Line) → run sdfile limit first xs i t ≡ at first xs → length t ≡ 0
      empty [] g = refl
      empty (l ∷ t) g = absurd (omega (arith, grows_more limit first xs i l t xs g))

      go : {p : Place} {ys : List Raw} {b : Bytes} {j : ℕ} {v : Verdict (List Raw)} → Ending sdfile p ys b j v → ys ≡ xs → run sdfile limit first xs i ls ≡ at p xs →
          0 < length ls + length b → v ≡ Verdict.refused 19 j 1
      go Ending.good_sd e g some = absurd (omega (arith, empty ls g))
      go (Ending.short w) e g some = refl

  -- it is cut short, and there is something: so is the file
  pub walk_short : (k : ℕ) → one_record limit ls ≡ short k → 0 < length ls + length rest → file_from limit xs i ls rest ≡ Verdict.refused 19 (i + k - 1) 1
  unfolding file_from
  walk_short k h some =
      let s = same_one (short k) h in
      let n : i + length ls ≡ i + k - 1 = omega (arith, s.1) in
      ap (λ (u : Run). conclude sdfile u rest (i + length ls)) s.2 ∙ cut_short s.0 s.2 some ∙ ap (λ (j : ℕ). Verdict.refused 19 j 1) n
