-- The loop over the value lines of an item, from any position; and the step as the code takes it.
use Rattle.std.specs.Prelude.{Err, Result, Ok, ℕ, suc, ◌+◌, ◌-◌, ◌*◌, ◌^◌, ◌≤◌, ◌<◌, ◌≡◌, refl, length, take, drop}
use Rattle.std.proofs.Common.{arith, ◌∙◌, length-take, length-drop, Fits}
use Rattle.std.proofs.Math.Path.{sym, ap}
use mathlib.Core.List.{List, [], ◌∷◌}
use Rattle.std.specs.Int.{w64}
use Rattle.text.specs.Text.{Bytes, Line}
use Rattle.text.specs.Find.{line_at}
use Rattle.text.specs.Cut.{Cut, cut, line_within, line_cut, line_rest}
use Rattle.text.specs.declared.LineAt.{LineAt}
use Rattle.judge_line.specs.Got.{got, bad}
use Rattle.judge_line.specs.Judge.{value, blank}
use Rattle.line_text.specs.Answer.{value_got}
use Rattle.line_text.specs.declared.ItemLine.{ItemLine}
use Rattle.judge_line.specs.declared.Refusal.{Refusal}
use Rattle.line_text.specs.declared.ValueKind.{ValueKind}
use Rattle.judge_file.specs.WalkText.{after_lines, after_none}
use Rattle.reader_walk.specs.Walking.{after_more}
use Rattle.reader_item.specs.Find.{line_end, from_of, to_of}
use Rattle.reader_item.specs.Position.{end_is}
use Rattle.reader_items.specs.declared.ItemAt.{ItemAt}
use Rattle.reader_items.specs.declared.ValuesAt.{ValuesAt}
use Rattle.reader_items.specs.Step.{title_is, value_is, title_of, over, stopped, values_run, values_by, values_from, with_values, titled, step_to, step_of}
use Rattle.reader_items.specs.Titles.{title_within}

-- ---- One line of the values

pub run_value : (k : ℕ) (l : Line) (ls : List Line) → value_is l ≡ got value → values_run k (l ∷ ls) ≡ values_run (suc k) ls
unfolding values_run
run_value k l ls h = rw (h, values_run)

pub run_blank : (k : ℕ) (l : Line) (ls : List Line) → value_is l ≡ got blank → values_run k (l ∷ ls) ≡ over k
unfolding values_run
run_blank k l ls h = rw (h, values_run)

pub run_bad : (k : ℕ) (l : Line) (ls : List Line) (e c : ℕ) → value_is l ≡ bad e c → values_run k (l ∷ ls) ≡ stopped e (k + 2) c
unfolding values_run
run_bad k l ls e c h = rw (h, values_run)

pub run_none : (k : ℕ) → values_run k [] ≡ stopped 19 (k + 2) 1
unfolding values_run
run_none k = refl

-- ---- The loop

-- so many value lines lie between `at` and i, and the next line is `line`
pub record Running (s : Bytes) (at from to i line : ℕ) : Type 0 where
  pub passed : ℕ
  pub place : after_lines s at passed ≡ i
  pub low : passed ≤ i
  pub line_is : line ≡ passed + 2
  pub from_is : from ≡ from_of at passed
  pub to_is : to ≡ to_of s at passed
  pub same : values_run 0 (cut (drop at s)).lines ≡ values_run passed (cut (drop i s)).lines

pub running_start : (s : Bytes) (at : ℕ) → Running s at 0 0 at 2
running_start s at = record { passed = 0; place = after_none s at; low = omega arith; line_is = refl; from_is = refl; to_is = refl; same = refl }

module _ (s : Bytes) (at from to i line : ℕ) (g : Running s at from to i line) (o : LineAt) (is : o ≡ line_at s i) where
  pub running_cut : o ≡ LineAt.Unfinished → ValuesAt.Refused 19 line 1 ≡ values_from s at
  unfolding values_from
  running_cut q =
      let none : (cut (drop i s)).lines ≡ [] = ap (λ (c : Cut). c.lines) (line_rest s i (sym is ∙ q)) in
      sym (ap (values_by s at) (g.same ∙ ap (values_run g.passed) none ∙ run_none g.passed) ∙ ap (λ (j : ℕ). ValuesAt.Refused 19 j 1) (sym g.line_is))

  module _ (e n : ℕ) (q : o ≡ LineAt.Line e n) where
    l_is : line_at s i ≡ LineAt.Line e n
    l_is = sym is ∙ q

    pub running_low : i ≤ e
    running_low = (line_within s i e n l_is).0

    pub running_high : e ≤ length s
    running_high = let w = line_within s i e n l_is in omega (arith, w.1, w.2)

    pub running_less : length s - n < length s - i
    running_less = let w = line_within s i e n l_is in omega (arith, w.0, w.1, w.2)

    pub running_fits : length s * 1 < 2 ^ 63 → Fits w64 (line + 1)
    running_fits h = let w = line_within s i e n l_is in record { fits = omega (arith, g.low, g.line_is, w.0, w.1, w.2) }

    pub further : after_lines s at (suc g.passed) ≡ n
    further = after_more s at g.passed i e n g.place l_is

    abbrev pub here : Line
    here = take (e - i) (drop i s)

    pub lines_are : (cut (drop i s)).lines ≡ here ∷ (cut (drop n s)).lines
    lines_are = ap (λ (c : Cut). c.lines) (line_cut s i e n l_is)

    module _ (v : Result ValueKind Refusal) (f : value_got v ≡ value_is here) where
      pub running_value : v ≡ Ok ValueKind.Value → Running s at at e n (line + 1)
      running_value h =
          let w = line_within s i e n l_is in
          record {
            passed = suc g.passed;
            place = further;
            low = omega (arith, g.low, w.0, w.1);
            line_is = omega (arith, g.line_is);
            from_is = refl;
            to_is = sym (end_is s i e n l_is) ∙ ap (line_end s) (sym g.place);
            same =
                g.same ∙ ap (values_run g.passed) lines_are
                ∙ run_value g.passed here (cut (drop n s)).lines (sym f ∙ ap value_got h);
          }

      pub running_bad : (r : Refusal) → v ≡ Err r → ValuesAt.Refused r.no line r.column ≡ values_from s at
      unfolding values_from
      running_bad r h =
          let run : values_run 0 (cut (drop at s)).lines ≡ stopped r.no (g.passed + 2) r.column =
          g.same ∙ ap (values_run g.passed) lines_are ∙ run_bad g.passed here (cut (drop n s)).lines r.no r.column (sym f ∙ ap value_got h) in
          rw (run, g.line_is)

-- ---- With the name

module _ (a b : ℕ) (v : ValuesAt) where
  pub with_over : (from to n k : ℕ) → v ≡ ValuesAt.Over from to n k → ItemAt.Item a b from to n k ≡ with_values a b v
  unfolding with_values
  with_over from to n k h = ap (with_values a b) (sym h)

  pub with_refused : (e i c : ℕ) → v ≡ ValuesAt.Refused e i c → ItemAt.Refused e i c ≡ with_values a b v
  unfolding with_values
  with_refused e i c h = ap (with_values a b) (sym h)

pub ruleset with_laws = (with_over, with_refused)

-- ---- The step

pub step_rest : (s : Bytes) (at : ℕ) → line_at s at ≡ LineAt.Unfinished → step_of s at ≡ ItemAt.Refused 19 1 1
unfolding step_of
step_rest s at h = ap (step_to s at) h

module _ (s : Bytes) (at e n : ℕ) (h : line_at s at ≡ LineAt.Line e n) where
  abbrev first : Line
  first = take (e - at) (drop at s)

  pub step_line : (t : Result ItemLine Refusal) → title_of first (title_is first) ≡ t → step_of s at ≡ titled s at n t
  unfolding step_of
  step_line t f = ap (step_to s at) h ∙ ap (titled s at n) f

  -- a name lies in the text
  pub name_within : (a b : ℕ) → title_of first (title_is first) ≡ Ok (ItemLine.Title a b) → (at + a ≤ at + b) × (at + b ≤ length s)
  name_within a b f =
      let w = line_within s at e n h in
      let i = title_within first a b f in
      (omega (arith, i.0), omega (arith, i.1, length-take (e - at) (drop at s), length-drop at s, w.0, w.1, w.2))
