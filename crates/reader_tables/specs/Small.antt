-- What the judge of a line accepts fits a place of the table.
use Rattle.std.specs.Prelude.{ℕ, ◌+◌, ◌≤◌, List, [], ◌∷◌, Bool, true, false, cond, eqb}
use Rattle.std.proofs.Common.{arith}
use Rattle.text.specs.Text.{Line}
use Rattle.field_numbers.specs.Number.{OneOf}
use Rattle.rules.specs.Forms.{Atom, AtomLine, Bond, BondLine}
use Rattle.reader_tables.specs.Row.{SmallAtom, SmallBond}

pub atom_small : (n : ℕ) (l : Line) (a : Atom) → n ≤ 999 → AtomLine n l a → SmallAtom a
atom_small n l a h g =
    record {
      symbol = omega (arith, g.symbol.high);
      charge_code = omega (arith, g.charge_code.high);
      parity = omega (arith, g.parity.high);
      hydrogen_count = omega (arith, g.hydrogen_count.high);
      stereo_care = omega (arith, g.stereo_care.high);
      valence = omega (arith, g.valence.high);
      H0 = omega (arith, g.H0.high);
      atom_map = omega (arith, g.atom_map.high);
      inversion = omega (arith, g.inversion.high);
      exact_change = omega (arith, g.exact_change.high);
    }

total : List ℕ → ℕ
total [] = 0
total (x ∷ xs) = x + total xs

below_total : {k : ℕ} {xs : List ℕ} → OneOf k xs → k ≤ total xs
unfolding total
below_total OneOf.this = omega arith
below_total (OneOf.later o) = omega (arith, below_total o)

stereos_small : (s t : Bool) → total (cond s (0 ∷ 1 ∷ 4 ∷ 6 ∷ []) (cond t (0 ∷ 3 ∷ []) (0 ∷ []))) ≤ 999
unfolding total
stereos_small true t = omega arith
stereos_small false true = omega arith
stereos_small false false = omega arith

pub bond_small : (n : ℕ) (l : Line) (b : Bond) → n ≤ 999 → BondLine n l b → SmallBond b
bond_small n l b h g =
    record {
      first = omega (arith, g.first.high);
      second = omega (arith, g.second.high);
      type = omega (arith, g.type.high);
      stereo = omega (arith, below_total g.stereo.listed, stereos_small (eqb b.type 1) (eqb b.type 2));
      topology = omega (arith, g.topology.high);
    }
