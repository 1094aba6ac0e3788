-- `reader_state::at_atoms` meets its contract.
use Rattle.std.proofs.Common.{rules}
use Rattle.reader_state.proofs.Places.{atoms_laws, atoms_stop, untitled, step_back, untitled_back}
use Rattle.reader_state.proofs.at_atoms.Goals as goal

pub returns-in_err-atom : goal.returns-in_err-atom
returns-in_err-atom c = record {
  result_value = step_back _ _ _ c.from_residual.ensures.1 _ (atoms_stop _ _ _ _ _ c.atom_line.ensures _ c.in_err-atom.was);
  title_in = untitled_back _ _ _ c.from_residual.ensures.1;
}

pub returns : goal.returns
returns c = record {
  result_value = search (rules, atoms_laws, c.in_ok-atom.was);
  title_in = search untitled;
}
