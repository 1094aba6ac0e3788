-- `line_atom::atom_rest` meets its contract.
use Rattle.line_fields.specs.Steps.{steps}
use Rattle.line_atom.specs.Answer.{atom_from}
use Rattle.line_atom.proofs.atom_rest.Goals as goal

pub returns-in_err-valence : goal.returns-in_err-valence
unfolding atom_from
returns-in_err-valence c = search (steps, c.in_err-valence.was) depth 24 fits 20000

pub returns-in_err-h0 : goal.returns-in_err-h0
unfolding atom_from
returns-in_err-h0 c = search (steps, c.in_ok-valence.was, c.in_err-h0.was) depth 24 fits 20000

pub returns-in_err-atom_map : goal.returns-in_err-atom_map
unfolding atom_from
returns-in_err-atom_map c = search (steps, c.in_ok-valence.was, c.in_ok-h0.was, c.in_err-atom_map.was) depth 24 fits 20000

pub returns-in_err-inversion : goal.returns-in_err-inversion
unfolding atom_from
returns-in_err-inversion c = search (steps, c.in_ok-valence.was, c.in_ok-h0.was, c.in_ok-atom_map.was, c.in_err-inversion.was) depth 24 fits 20000

pub returns-in_err-exact_change : goal.returns-in_err-exact_change
unfolding atom_from
returns-in_err-exact_change c = search (steps, c.in_ok-valence.was, c.in_ok-h0.was, c.in_ok-atom_map.was, c.in_ok-inversion.was, c.in_err-exact_change.was) depth 24 fits 20000

pub returns : goal.returns
unfolding atom_from
returns c = search (steps, c.in_ok-valence.was, c.in_ok-h0.was, c.in_ok-atom_map.was, c.in_ok-inversion.was, c.in_ok-exact_change.was) depth 24 fits 20000
