-- `reader_state::at_items` meets its contract.
use Rattle.std.proofs.Common.{rules}
use Rattle.reader_state.proofs.Places.{items_laws, items_stop, untitled, step_back, untitled_back}
use Rattle.reader_state.proofs.at_items.Goals as goal

pub returns-in_err-from : goal.returns-in_err-from
returns-in_err-from c = record {
  result_value = step_back _ _ _ c.from_residual.ensures.1 _ (items_stop _ _ _ _ c.item_line.ensures.result_value _ c.in_err-from.was);
  title_in = untitled_back _ _ _ c.from_residual.ensures.1;
}

pub returns-in-Title : goal.returns-in-Title
returns-in-Title c = search (rules, items_laws, untitled, c.in_ok-from.was)

pub returns-in-Close : goal.returns-in-Close
returns-in-Close c = search (rules, items_laws, untitled, c.in_ok-from.was)
