-- Laws on a place, and on a line's length and bytes.
use Rattle.std.specs.Prelude.{Option, Some, None}
use Prim.Native.Nat.{ℕ, ◌+◌, ◌≤◌, ◌<◌}
use native.Mathlib.Numerals.{add-one}
use mathlib.Core.Path.{◌≡◌}
use lib.ListN.{length}
use borrow.Author.Tests.{ne_eqb, le-leb, lt-leb}
use Rattle.text.specs.Text.{Line}
use Rattle.text.specs.Find.{bad_column}
use Rattle.judge_line.specs.Got.{Got, bad, need}
use Rattle.judge_line.specs.Field.{within}
use Rattle.reader_places.specs.Places.{bonds_owed, atoms_owed}
use Rattle.reader_places.specs.declared.Place.{Place}
use Rattle.reader_places.specs.declared.Place.TheVariants as P

-- ---- length and bytes

module _ (longest : ℕ) (l : Line) (x : Got Line) where
  pub line_long : longest < length l → bad 3 (longest + 1) ≡ within longest l x
  unfolding within need
  line_long h = rw (add-one, lt-leb (length l) longest h)

  pub line_byte : (found : Option ℕ) (column : ℕ) → length l ≤ longest → found ≡ bad_column l → found ≡ Some column → bad 4 column ≡ within longest l x
  unfolding within need
  line_byte found column h e f = rw (le-leb (length l) longest h, ← e, f)

  pub line_good : (found : Option ℕ) → length l ≤ longest → found ≡ bad_column l → found ≡ None → x ≡ within longest l x
  unfolding within need
  line_good found h e f = rw (le-leb (length l) longest h, ← e, f)

pub ruleset line_laws = (line_long, line_byte, line_good)

-- ---- lines owed

pub no_bonds : (k : ℕ) → k ≡ 0 → P.Properties ≡ bonds_owed k
unfolding bonds_owed
no_bonds k h = rw h

pub some_bonds : (k : ℕ) → (k ≡ 0 → ⊥) → P.Bonds k ≡ bonds_owed k
unfolding bonds_owed
some_bonds k h = rw (ne_eqb k 0 h)

pub no_atoms_lem : (k m : ℕ) (p : Place) → k ≡ 0 → p ≡ bonds_owed m → p ≡ atoms_owed k m
unfolding atoms_owed
no_atoms_lem k m p h e = rw h e

pub some_atoms : (k m : ℕ) → (k ≡ 0 → ⊥) → P.Atoms k ≡ atoms_owed k m
unfolding atoms_owed
some_atoms k m h = rw (ne_eqb k 0 h)

pub ruleset owed_laws = (no_bonds, some_bonds, no_atoms_lem, some_atoms)
