-- `reader_state::at_counts` meets its contract.
use Rattle.std.proofs.Common.{rules}
use Rattle.reader_state.proofs.Places.{counts_laws, counts_stop, untitled, step_back, untitled_back}
use Rattle.reader_state.proofs.at_counts.Goals as goal

pub returns-in_err-counts : goal.returns-in_err-counts
returns-in_err-counts c = record {
  result_value = step_back _ _ _ c.from_residual.ensures.1 _ (counts_stop _ _ _ _ c.counts_line.ensures _ c.in_err-counts.was);
  kept_at = search (counts_laws, c.in_err-counts.was);
  listed_len = search counts_laws;
  title_in = untitled_back _ _ _ c.from_residual.ensures.1;
}

pub empty-requires : goal.empty-requires
empty-requires c = search (rules, counts_laws, c.in_ok-counts.was)

pub returns : goal.returns
returns c = record {
  result_value = search (counts_laws, c.in_ok-counts.was);
  kept_at = search (counts_laws, c.in_ok-counts.was);
  listed_len = search counts_laws;
  title_in = search untitled;
}
