-- The samples hold.
use Rattle.std.specs.Prelude.{ℕ, [], pos}
use Rattle.rules.specs.Forms.{Atom}
use Rattle.rules.specs.Canon.{charge_code}

-- ---- Codes, and property lines that make them void

-- a carbon at the origin, with a mass difference and a code
abbrev pub coded : ℕ → ℕ → Atom
coded mass code =
    record {
      x = pos 0;
      y = pos 0;
      z = pos 0;
      symbol = 6;
      mass_difference = pos mass;
      charge_code = code;
      parity = 0;
      hydrogen_count = 0;
      stereo_care = 0;
      valence = 0;
      H0 = 0;
      atom_map = 0;
      inversion = 0;
      exact_change = 0;
    }
