-- The parts of an atom's row, as the code stores them.
use Rattle.std.specs.Prelude.{◌≤◌, List, [], ◌∷◌, ℤ, pos}
use Rattle.line_atom.specs.declared.AtomPlace.{AtomPlace}
use Rattle.line_atom.specs.declared.AtomCodes.{AtomCodes}
use Rattle.line_atom.specs.declared.Atom.{Atom}

abbrev pub place_row : AtomPlace → List ℤ
place_row p = p.x ∷ p.y ∷ p.z ∷ pos p.symbol ∷ []

abbrev pub codes_row : AtomCodes → List ℤ
codes_row c = c.mass_difference ∷ pos c.charge_code ∷ pos 0 ∷ pos 0 ∷ pos c.parity ∷ pos c.hydrogen_count ∷ pos c.stereo_care ∷ []

abbrev pub rest_row : Atom → List ℤ
rest_row a = pos a.valence ∷ pos a.h0 ∷ pos a.atom_map ∷ pos a.inversion ∷ pos a.exact_change ∷ []

pub record SmallCodes (c : AtomCodes) : Type 0 where
  pub charge_code : c.charge_code ≤ 999
  pub parity : c.parity ≤ 999
  pub hydrogen_count : c.hydrogen_count ≤ 999
  pub stereo_care : c.stereo_care ≤ 999
