-- `line_atom::atom_place` meets its contract.
use Rattle.line_fields.specs.Steps.{steps}
use Rattle.line_atom.specs.Answer.{place_of}
use Rattle.line_atom.specs.AtomParts.{position_steps, position_held}
use Rattle.line_atom.proofs.atom_place.Goals as goal

pub returns-in_err-p : goal.returns-in_err-p
unfolding place_of
returns-in_err-p c = search (steps, position_steps, c.in_err-p.was) depth 24 fits 20000

pub returns-then-column-ne32 : goal.returns-then-column-ne32
unfolding place_of
returns-then-column-ne32 c = search (steps, position_steps, c.in_ok-p.was) depth 24 fits 20000

pub returns-in_err-symbol : goal.returns-in_err-symbol
unfolding place_of
returns-in_err-symbol c = search (steps, position_steps, c.in_ok-p.was, c.in_err-symbol.was) depth 24 fits 20000

pub returns : goal.returns
unfolding place_of
returns c = search (steps, position_steps, c.in_ok-p.was, c.in_ok-symbol.was) depth 24 fits 20000
