-- `reader_items::good_title` meets its contract.
use Rattle.std.proofs.Common.{rules, ◌∙◌}
use Rattle.judge_line.specs.Got.{is_err_of}
use Rattle.reader_items.specs.Titles.{good_laws, good_bad}
use Rattle.reader_items.proofs.good_title.Goals as goal

pub returns-in_err-from : goal.returns-in_err-from
returns-in_err-from c = is_err_of _ _ c.from_residual.ensures.1 ∙ good_bad _ _ c.item_line.ensures.result_value _ c.in_err-from.was

pub overflow_sub-to : goal.overflow_sub-to
overflow_sub-to c = search (rules, good_laws, c.in_ok-from.was)

pub named-requires : goal.named-requires
named-requires c = search (rules, good_laws, c.in_ok-from.was)

pub returns-in-Title : goal.returns-in-Title
returns-in-Title c = search (rules, good_laws, c.in_ok-from.was)

pub returns-in-Close : goal.returns-in-Close
returns-in-Close c = search (rules, good_laws, c.in_ok-from.was)
