-- `reader_state::at_values` meets its contract.
use Rattle.std.proofs.Common.{rules}
use Rattle.reader_state.proofs.Places.{values_laws, values_stop, untitled, step_back, untitled_back}
use Rattle.reader_state.proofs.at_values.Goals as goal

pub returns-in_err-value_line : goal.returns-in_err-value_line
returns-in_err-value_line c = record {
  result_value = step_back _ _ _ c.from_residual.ensures.1 _ (values_stop _ _ _ _ c.value_line.ensures _ c.in_err-value_line.was);
  title_in = untitled_back _ _ _ c.from_residual.ensures.1;
}

pub returns-in-Value : goal.returns-in-Value
returns-in-Value c = search (rules, values_laws, untitled, c.in_ok-value_line.was)

pub returns-in-Blank : goal.returns-in-Blank
returns-in-Blank c = search (rules, values_laws, untitled, c.in_ok-value_line.was)
