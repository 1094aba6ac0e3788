-- `reader_state::at_properties` meets its contract.
use Rattle.std.proofs.Common.{rules}
use Rattle.reader_state.proofs.Places.{properties_laws, properties_stop, untitled, step_back, untitled_back}
use Rattle.reader_state.proofs.at_properties.Goals as goal

pub returns-in_err-property_line : goal.returns-in_err-property_line
returns-in_err-property_line c = record {
  result_value = step_back _ _ _ c.from_residual.ensures.1 _ (properties_stop _ _ _ _ c.property_line.ensures.value _ c.in_err-property_line.was);
  kept_at = search properties_laws;
  listed_len_2 = search properties_laws;
  title_in = untitled_back _ _ _ c.from_residual.ensures.1;
}

pub returns-in-Listed : goal.returns-in-Listed
returns-in-Listed c = record {
  result_value = search (properties_laws, c.in_ok-property_line.was);
  kept_at = search properties_laws;
  listed_len_2 = search properties_laws;
  title_in = search untitled;
}

pub returns-in-End : goal.returns-in-End
returns-in-End c = record {
  result_value = search (properties_laws, c.in_ok-property_line.was);
  kept_at = search properties_laws;
  listed_len_2 = search properties_laws;
  title_in = search untitled;
}
