-- What the code says of an atom line, as the judge says it.
use Rattle.std.specs.Prelude.{Result, Ok, Err, ℕ}
use Rattle.text.specs.Text.{Line}
use Rattle.rules.specs.Forms as R
use Rattle.judge_line.specs.Got.{got_by, Got, got, bad, then}
use Rattle.judge_line.specs.Field.{number_at, signed_at, coordinate_at, symbol_at, space_at, spaces_from}
use Rattle.line_usual_position.specs.declared.Position.{Position}
use Rattle.judge_line.specs.declared.Refusal.{Refusal}
use Rattle.line_atom.specs.declared.AtomPlace.{AtomPlace}
use Rattle.line_atom.specs.declared.AtomCodes.{AtomCodes}
use Rattle.line_atom.specs.declared.Atom.{Atom}

abbrev pub position_got : Result Position Refusal → Got Position
position_got x = got_by (λ p. p) x

abbrev pub place_got : Result AtomPlace Refusal → Got AtomPlace
place_got x = got_by (λ p. p) x

abbrev pub codes_got : Result AtomCodes Refusal → Got AtomCodes
codes_got x = got_by (λ c. c) x

-- columns 1 to 30
unfoldable pub position_of : Line → Got Position
position_of l =
    then (coordinate_at l 1 10) λ x.
    then (coordinate_at l 11 20) λ y.
    then (coordinate_at l 21 30) λ z.
    got (record { x = x; y = y; z = z })

-- columns 1 to 34
unfoldable pub place_of : Line → Got AtomPlace
place_of l =
    then (position_of l) λ p.
    space_at l 31
    (then (symbol_at l 32 34) λ symbol.
    got (record { x = p.x; y = p.y; z = p.z; symbol = symbol }))

-- columns 35 to 48
unfoldable pub codes_of : Line → Got AtomCodes
codes_of l =
    then (signed_at l 35 36 3 4) λ mass.
    then (number_at l 37 39 0 7) λ code.
    then (number_at l 40 42 0 3) λ parity.
    then (number_at l 43 45 0 5) λ hydrogens.
    then (number_at l 46 48 0 1) λ care.
    got
    (record {
      mass_difference = mass;
      charge_code = code;
      parity = parity;
      hydrogen_count = hydrogens;
      stereo_care = care;
    })

-- an atom from its parts
abbrev pub atom_is : Atom → R.Atom
atom_is a =
    record {
      x = a.place.x;
      y = a.place.y;
      z = a.place.z;
      symbol = a.place.symbol;
      mass_difference = a.codes.mass_difference;
      charge_code = a.codes.charge_code;
      parity = a.codes.parity;
      hydrogen_count = a.codes.hydrogen_count;
      stereo_care = a.codes.stereo_care;
      valence = a.valence;
      H0 = a.h0;
      atom_map = a.atom_map;
      inversion = a.inversion;
      exact_change = a.exact_change;
    }

abbrev pub atom_got : Result Atom Refusal → Got R.Atom
atom_got x = got_by atom_is x

-- from column 67 on
unfoldable pub exact_of : Line → Got ℕ
exact_of l = then (number_at l 67 69 0 1) λ exact. spaces_from l 70 (got exact)

-- from column 49 on
unfoldable pub atom_from : ℕ → AtomPlace → AtomCodes → Line → Got R.Atom
atom_from n p c l =
    then (number_at l 49 51 0 15) λ valence.
    then (number_at l 52 54 0 1) λ h0.
    then (number_at l 61 63 0 n) λ map.
    then (number_at l 64 66 0 2) λ inversion.
    then (exact_of l) λ exact.
    got (atom_is (record { place = p; codes = c; valence = valence; h0 = h0; atom_map = map; inversion = inversion; exact_change = exact }))
