-- The loop over the value lines of an item, from any position; and the step as the code takes it.
use Rattle.std.specs.Prelude.{Result, Ok, ℕ, ◌≡◌, drop}
use Rattle.std.proofs.Common.{◌∙◌}
use Rattle.std.proofs.Math.Path.{sym, ap}
use mathlib.Core.List.{[]}
use Rattle.text.specs.Text.{Bytes, Line}
use Rattle.text.specs.Find.{line_at}
use Rattle.text.specs.Cut.{cut}
use Rattle.text.specs.declared.LineAt.{LineAt}
use Rattle.line_text.specs.Answer.{value_got}
use Rattle.line_text.specs.declared.ValueKind.{ValueKind}
use Rattle.judge_line.specs.declared.Refusal.{Refusal}
use Rattle.reader_items.specs.declared.ValuesAt.{ValuesAt}
use Rattle.reader_items.specs.Step.{value_is, over, values_run, values_from}
use Rattle.reader_items.specs.Running.{run_blank, Running, running_start, running_cut, running_low, running_high, running_less, running_fits, further, here, lines_are, running_value, running_bad}

-- ---- The loop

module _ (s : Bytes) (at from to i line : ℕ) (g : Running s at from to i line) (o : LineAt) (is : o ≡ line_at s i) where
  module _ (e n : ℕ) (q : o ≡ LineAt.Line e n) where
    module _ (v : Result ValueKind Refusal) (f : value_got v ≡ value_is (here s at from to i line g o is e n q)) where
      pub running_blank : v ≡ Ok ValueKind.Blank → ValuesAt.Over from to n line ≡ values_from s at
      unfolding values_from
      running_blank h =
          let run : values_run 0 (cut (drop at s)).lines ≡ over g.passed =
          g.same ∙ ap (values_run g.passed) (lines_are s at from to i line g o is e n q) ∙ run_blank g.passed (here s at from to i line g o is e n q) (cut (drop n s)).lines (sym f ∙ ap value_got h) in
          rw (run, g.from_is, g.to_is, g.line_is, further s at from to i line g o is e n q)

pub ruleset running_laws = (running_start, running_cut, running_low, running_high, running_less, running_fits, running_value, running_blank, running_bad)
