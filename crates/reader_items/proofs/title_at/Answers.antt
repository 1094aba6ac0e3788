-- `reader_items::title_at` meets its contract.
use Rattle.std.proofs.Common.{rules, ◌∙◌}
use Rattle.judge_line.specs.Got.{is_err_of}
use Rattle.reader_items.specs.Titles.{line_laws, line_no_title}
use Rattle.reader_items.proofs.title_at.Goals as goal

pub returns-in_err-line_judged : goal.returns-in_err-line_judged
returns-in_err-line_judged c = is_err_of _ _ c.from_residual.ensures.1 ∙ line_no_title _ _ c.line_judged.ensures _ c.in_err-line_judged.was

pub returns : goal.returns
returns c = search (rules, line_laws, c.in_ok-line_judged.was)
