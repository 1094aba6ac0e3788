-- `reader_state::Reader::step` meets its contract.
use Rattle.std.proofs.Common.{rules}
use Rattle.reader_state.proofs.Places.{step_laws, step_stop, untitled, step_back, untitled_back}
use Rattle.reader_state.proofs.Reader.step.Goals as goal

pub line_judged-requires : goal.line_judged-requires
line_judged-requires c = search (rules, step_laws, untitled)

pub returns-in_err-line_judged : goal.returns-in_err-line_judged
returns-in_err-line_judged c = record {
  result_value = step_back _ _ _ c.from_residual.ensures.1 _ (step_stop _ _ _ _ _ c.longest.ensures c.line_judged.ensures _ c.in_err-line_judged.was);
  kept = search (step_laws, c.in_err-line_judged.was);
  listed_len_2 = search rules;
  title_in = untitled_back _ _ _ c.from_residual.ensures.1;
}

pub returns : goal.returns
returns c = record {
  result_value = search (step_laws, c.in_ok-line_judged.was);
  kept = search step_laws;
  listed_len_2 = search rules;
  title_in = search untitled;
}
