-- `line_atom::atom_codes` meets its contract.
use Rattle.line_fields.specs.Steps.{steps}
use Rattle.line_atom.specs.Answer.{codes_of}
use Rattle.line_atom.proofs.atom_codes.Goals as goal

pub returns-in_err-mass_difference : goal.returns-in_err-mass_difference
unfolding codes_of
returns-in_err-mass_difference c = search (steps, c.in_err-mass_difference.was) depth 24 fits 20000

pub returns-in_err-charge_code : goal.returns-in_err-charge_code
unfolding codes_of
returns-in_err-charge_code c = search (steps, c.in_ok-mass_difference.was, c.in_err-charge_code.was) depth 24 fits 20000

pub returns-in_err-parity : goal.returns-in_err-parity
unfolding codes_of
returns-in_err-parity c = search (steps, c.in_ok-mass_difference.was, c.in_ok-charge_code.was, c.in_err-parity.was) depth 24 fits 20000

pub returns-in_err-hydrogen_count : goal.returns-in_err-hydrogen_count
unfolding codes_of
returns-in_err-hydrogen_count c = search (steps, c.in_ok-mass_difference.was, c.in_ok-charge_code.was, c.in_ok-parity.was, c.in_err-hydrogen_count.was) depth 24 fits 20000

pub returns-in_err-stereo_care : goal.returns-in_err-stereo_care
unfolding codes_of
returns-in_err-stereo_care c = search (steps, c.in_ok-mass_difference.was, c.in_ok-charge_code.was, c.in_ok-parity.was, c.in_ok-hydrogen_count.was, c.in_err-stereo_care.was) depth 24 fits 20000

pub returns : goal.returns
unfolding codes_of
returns c = search (steps, c.in_ok-mass_difference.was, c.in_ok-charge_code.was, c.in_ok-parity.was, c.in_ok-hydrogen_count.was, c.in_ok-stereo_care.was) depth 24 fits 20000
