-- `reader_state::at_first` meets its contract.
use Rattle.std.proofs.Common.{rules}
use Rattle.reader_state.proofs.Places.{header_laws, first_stop, untitled, step_back, untitled_back}
use Rattle.reader_state.proofs.at_first.Goals as goal

pub returns-in_err-first_header : goal.returns-in_err-first_header
returns-in_err-first_header c = record {
  result_value = step_back _ _ _ c.from_residual.ensures.1 _ (first_stop _ _ _ c.first_header.ensures _ c.in_err-first_header.was);
  title_in = untitled_back _ _ _ c.from_residual.ensures.1;
}

pub returns : goal.returns
returns c = record {
  result_value = search (rules, header_laws, c.in_ok-first_header.was);
  title_in = search untitled;
}
