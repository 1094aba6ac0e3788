-- An SDfile's text walked record by record: each record starts where the lines of the one before it end.
use Rattle.std.specs.Prelude.{ℕ, ◌+◌, ◌-◌, ◌<◌, ◌≤◌, ◌≡◌, drop}
use Rattle.std.proofs.Math.Path.{sym, ap}
use Rattle.std.proofs.Common.{◌∙◌, arith}
use mathlib.Core.List.{List, [], ◌∷◌, ◌++◌}
use Rattle.std.proofs.Math.ListN.{length}
use Rattle.text.specs.Text.{Bytes, Line, Lines}
use Rattle.text.specs.Cut.{Cut, cut, cut_is}
use Rattle.rules.specs.Record.{Raw}
use Rattle.judge_file.specs.Place.{sdfile}
use Rattle.judge_file.specs.Verdict.{Verdict, verdict}
use Rattle.judge_file.specs.One.{whole, refused, short, one_record}
use Rattle.judge_file.proofs.OneAgree.{one_whole, one_rest}
use Rattle.judge_file.specs.Walk.{file_from}
use Rattle.judge_file.proofs.Walk.{verdict_from_lem, walk_whole, walk_refused, walk_short}
use Rattle.judge_file.specs.WalkText.{after_lines, after_within, after_cut, file_text}

-- ---- The walk

pub verdict_text : (limit : ℕ) (s : Bytes) → verdict sdfile limit s ≡ file_text limit [] 1 s
unfolding file_text
verdict_text limit s = verdict_from_lem limit s

some_left : {t : Bytes} {ls : List Line} {rest : Bytes} → Lines t ls rest → 0 < length t → 0 < length ls + length rest
some_left (Lines.unfinished f) h = omega arith
some_left (Lines.line e f g p) h = omega arith

module _ (limit : ℕ) (xs : List Raw) (i : ℕ) (t : Bytes) where
  -- a whole record of k lines: its bytes lie within the text, and what follows them is the rest of the walk
  pub text_room : (x : Raw) (k : ℕ) (more : List Line) → one_record limit (cut t).lines ≡ whole x k more →
      (k ≤ after_lines t 0 k) × (after_lines t 0 k ≤ length t)
  text_room x k more h =
      let w = after_within t 0 k (omega arith) (omega (arith, ((one_whole limit (cut t).lines x k more).0 h).1)) in
      (omega (arith, w.0), w.1)

  pub text_whole : (x : Raw) (k : ℕ) (more : List Line) → one_record limit (cut t).lines ≡ whole x k more →
      file_text limit xs i t ≡ file_text limit (xs ++ (x ∷ [])) (i + k) (drop (after_lines t 0 k) t)
  unfolding file_text
  text_whole x k more h =
      let few : k ≤ length (cut t).lines = omega (arith, ((one_whole limit (cut t).lines x k more).0 h).1) in
      walk_whole limit xs i (cut t).lines (cut t).rest x k more h
      ∙ ap (λ (c : Cut). file_from limit (xs ++ (x ∷ [])) (i + k) c.lines c.rest)
      (ap (λ (r : List Line). record { lines = r; rest = (cut t).rest }) (one_rest limit (cut t).lines x k more h) ∙ sym (after_cut t 0 k few))

  pub text_refused : (e k column : ℕ) → one_record limit (cut t).lines ≡ refused e k column → file_text limit xs i t ≡ Verdict.refused e (i + k - 1) column
  unfolding file_text
  text_refused e k column h = walk_refused limit xs i (cut t).lines (cut t).rest e k column h

  pub text_short : (k : ℕ) → one_record limit (cut t).lines ≡ short k → 0 < length t → file_text limit xs i t ≡ Verdict.refused 19 (i + k - 1) 1
  unfolding file_text
  text_short k h some = walk_short limit xs i (cut t).lines (cut t).rest k h (some_left (cut_is t) some)
