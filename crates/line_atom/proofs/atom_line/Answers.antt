-- `line_atom::atom_line` meets its contract.
use Rattle.line_fields.specs.Steps.{given_back}
use Rattle.line_atom.specs.AtomParts.{atom_on, place_stop, codes_stop}
use Rattle.line_atom.specs.Usual.{atom_plain}
use Rattle.line_atom.proofs.atom_line.Goals as goal

pub returns-in_err-place : goal.returns-in_err-place
returns-in_err-place c = given_back _ _ _ _ (place_stop _ _ _ _ c.atom_place.ensures c.in_err-place.was) c.from_residual.ensures.1

pub returns-then-atom_zeros : goal.returns-then-atom_zeros
returns-then-atom_zeros c = search (atom_plain, c.in_ok-place.was) depth 12 fits 20000

pub returns-in_err-codes : goal.returns-in_err-codes
returns-in_err-codes c =
    given_back _ _ _ _ (codes_stop _ _ _ _ _ _ c.atom_place.ensures c.in_ok-place.was c.atom_codes.ensures c.in_err-codes.was) c.from_residual-in_err-codes.ensures.1

pub returns : goal.returns
returns c = search (atom_on, c.in_ok-place.was, c.in_ok-codes.was) depth 12 fits 20000
