-- `reader_state::at_bonds` meets its contract.
use Rattle.std.proofs.Common.{rules}
use Rattle.reader_state.proofs.Places.{bonds_laws, bonds_stop, untitled, step_back, untitled_back}
use Rattle.reader_state.proofs.at_bonds.Goals as goal

pub returns-in_err-bond : goal.returns-in_err-bond
returns-in_err-bond c = record {
  result_value = step_back _ _ _ c.from_residual.ensures.1 _ (bonds_stop _ _ _ _ _ c.bond_line.ensures _ c.in_err-bond.was);
  title_in = untitled_back _ _ _ c.from_residual.ensures.1;
}

pub returns : goal.returns
returns c = record {
  result_value = search (rules, bonds_laws, c.in_ok-bond.was);
  title_in = search untitled;
}
