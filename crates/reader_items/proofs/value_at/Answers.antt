-- `reader_items::value_at` meets its contract.
use Rattle.std.proofs.Common.{rules, ap, ◌∙◌}
use Rattle.judge_line.specs.Got.{is_err_of}
use Rattle.line_text.specs.Answer.{value_got}
use Rattle.reader_items.specs.Titles.{value_laws, line_no_value}
use Rattle.reader_items.proofs.value_at.Goals as goal

pub returns-in_err-line_judged : goal.returns-in_err-line_judged
returns-in_err-line_judged c =
    ap value_got (is_err_of _ _ c.from_residual.ensures.1) ∙ line_no_value _ _ c.line_judged.ensures _ c.in_err-line_judged.was

pub returns : goal.returns
returns c = search (rules, value_laws, c.in_ok-line_judged.was)
