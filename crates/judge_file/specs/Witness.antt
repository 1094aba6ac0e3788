-- A good line of each kind: what can always be written next.
use Rattle.std.specs.Prelude.{ℕ, ◌≤◌, ◌<◌, ◌≡◌, ◌≢◌, length, pos}
use Rattle.std.proofs.Math.Path.{refl}
use Rattle.std.proofs.Common.{sym, ap, ◌∙◌, length-append}
use Rattle.std.proofs.Math.Bool.{false}
use mathlib.Core.List.{[], ◌∷◌, ◌++◌, append_assoc}
use native.Mathlib.Omega.{arith}
use Rattle.text.specs.Laws.{each_append}
use Rattle.text.specs.Text.{Bytes, Line, bytes, Each}
use Rattle.text.specs.Columns.{columns_for, columns, spaces, Allowed}
use Rattle.text.specs.Find.{first_from, bad_column}
use Rattle.text.specs.Agree.{bad_none, columns_part, columns_past, spaces_past}
use Rattle.field_numbers.specs.Number.{decimal_after, Digits, Integer, Number, OneOf}
use Rattle.field_numbers.specs.Write.{number_text}
use Rattle.field_numbers.specs.Written.{number_length, number_allowed, number_back}
use Rattle.field_coordinates.specs.Coordinate.{Coordinate}
use Rattle.rules.specs.Forms.{FirstHeaderLine, Counts, CountsLine, Atom, AtomLine, Bond, BondLine, EndLine, BlankLine, RecordEnd}
use Rattle.rules.specs.SamplesHold.{coded}
use Rattle.judge_line.specs.Got.{need}
use Rattle.judge_line.specs.Judge.{first_header_of, contains, begins}
use Rattle.judge_line.proofs.Agree.{header_agrees}

-- ---- Lines that are the same in each file

pub empty_header : FirstHeaderLine []
unfolding Each first_header_of need contains begins
empty_header = ((header_agrees [] [] (record { short = omega arith; allowed = tt })).0 refl).0

abbrev pub counts_text : Line
counts_text = bytes "                                  V2000"

abbrev pub no_atoms : Counts
no_atoms = record { atoms = 0; bonds = 0; chiral = 0 }

pub counts_line : (limit : ℕ) → CountsLine limit counts_text no_atoms
unfolding bad_column first_from columns_for Each
counts_line limit =
    record {
      line = record { short = omega arith; allowed = (bad_none counts_text).0 refl };
      atoms = record { field = Integer.blank 3 refl; low = omega arith; high = omega arith };
      bonds = record { field = Integer.blank 3 refl; low = omega arith; high = omega arith };
      pairs = omega arith;
      atom_lists = record { field = Integer.blank 3 refl; low = omega arith; high = omega arith };
      chiral = record { field = Integer.blank 3 refl; low = omega arith; high = omega arith };
      stext = record { field = Integer.blank 3 refl; low = omega arith; high = omega arith };
      version = refl;
      rest = tt;
    }

abbrev pub atom_text : Line
atom_text = bytes "                               C"

abbrev pub carbon : Atom
carbon = coded 0 0

-- three blank columns
blank_number : (l : Line) (i j most : ℕ) → columns l i j ≡ spaces 3 → Number l i j 0 most 0
blank_number l i j most e = record { field = Integer.blank 3 e; low = omega arith; high = omega arith }

pub atom_line_lem : (n : ℕ) → AtomLine n atom_text carbon
unfolding bad_column first_from columns_for Each
atom_line_lem n =
    record {
      line = record { short = omega arith; allowed = (bad_none atom_text).0 refl };
      x = Coordinate.blank refl;
      y = Coordinate.blank refl;
      z = Coordinate.blank refl;
      space = refl;
      symbol = record { low = omega arith; high = omega arith; text = refl };
      mass_difference = record { field = Integer.blank 2 refl; range = omega arith };
      charge_code = blank_number atom_text 37 39 7 refl;
      parity = blank_number atom_text 40 42 3 refl;
      hydrogen_count = blank_number atom_text 43 45 5 refl;
      stereo_care = blank_number atom_text 46 48 1 refl;
      valence = blank_number atom_text 49 51 15 refl;
      H0 = blank_number atom_text 52 54 1 refl;
      atom_map = blank_number atom_text 61 63 n refl;
      inversion = blank_number atom_text 64 66 2 refl;
      exact_change = blank_number atom_text 67 69 1 refl;
      rest = tt;
    }

pub end_line : EndLine (bytes "M  END")
unfolding bad_column first_from columns_for Each
end_line = record { line = record { short = omega arith; allowed = (bad_none (bytes "M  END")).0 refl }; tagged = refl; rest = tt }

pub record_end : RecordEnd (bytes "$$$$")
unfolding bad_column first_from columns_for Each
record_end = record { line = record { short = omega arith; allowed = (bad_none (bytes "$$$$")).0 refl }; tagged = refl; rest = tt }

pub blank_line : BlankLine []
unfolding Each
blank_line = record { line = record { short = omega arith; allowed = tt }; blank = tt }

-- ---- A bond line for a pair of atoms

abbrev pub bond_text : ℕ → ℕ → Line
bond_text x y = number_text 3 x ++ (number_text 3 y ++ bytes "  1")

abbrev pub single : ℕ → ℕ → Bond
single x y = record { first = x; second = y; type = 1; stereo = 0; topology = 0; centre = pos 0 }

module _ (n x y : ℕ) (few : n ≤ 999) (x_low : 1 ≤ x) (x_high : x ≤ n) (y_low : 1 ≤ y) (y_high : y ≤ n) (differ : x ≢ y) where
  bond_length : length (bond_text x y) ≡ 9
  bond_length =
      omega (arith, length-append (number_text 3 x) (number_text 3 y ++ bytes "  1"), length-append (number_text 3 y) (bytes "  1"), number_length 3 x, number_length 3 y)

  one_field : columns (bond_text x y) 7 9 ≡ bytes "  1"
  one_field =
      let e : bond_text x y ≡ (number_text 3 x ++ number_text 3 y) ++ (bytes "  1" ++ []) = sym (append_assoc (number_text 3 x) (number_text 3 y) (bytes "  1")) in
      let k : length (number_text 3 x ++ number_text 3 y) ≡ 6 = omega (arith, length-append (number_text 3 x) (number_text 3 y), number_length 3 x, number_length 3 y) in
      ap (λ (l : Line). columns l 7 9) e ∙ columns_part (number_text 3 x ++ number_text 3 y) (bytes "  1") [] 7 9 (omega arith) (omega arith)

  past : (i : ℕ) → 9 < i → columns_for (bond_text x y) i 3 ≡ spaces 3
  past i h = columns_past (bond_text x y) i 3 (omega (arith, bond_length))

  pub bond_line_lem : BondLine n (bond_text x y) (single x y)
  unfolding bad_column first_from decimal_after Each
  bond_line_lem =
      let x_at : columns (bond_text x y) 1 3 ≡ number_text 3 x = columns_part [] (number_text 3 x) (number_text 3 y ++ bytes "  1") 1 3 refl (omega (arith, number_length 3 x)) in
      let y_at : columns (bond_text x y) 4 6 ≡ number_text 3 y =
      columns_part (number_text 3 x) (number_text 3 y) (bytes "  1") 4 6 (omega (arith, number_length 3 x)) (omega (arith, number_length 3 x, number_length 3 y))
      in
      let one : Digits (49 ∷ []) 1 = record { some = omega arith; each = (omega arith, tt); number = refl } in
      record {
        line = record {
          short = omega (arith, bond_length);
          allowed = each_append Allowed (number_text 3 x) (number_text 3 y ++ bytes "  1") (number_allowed 3 x)
              (each_append Allowed (number_text 3 y) (bytes "  1") (number_allowed 3 y) ((bad_none (bytes "  1")).0 refl));
        };
        first = record { field = rw x_at (number_back false 3 x (omega arith)); low = x_low; high = x_high };
        second = record { field = rw y_at (number_back false 3 y (omega arith)); low = y_low; high = y_high };
        type = record { field = Integer.plain 2 (49 ∷ []) 0 1 one_field one; low = omega arith; high = omega arith };
        stereo = record { field = Integer.blank 3 (past 10 (omega arith)); listed = OneOf.this };
        topology = record { field = Integer.blank 3 (past 16 (omega arith)); low = omega arith; high = omega arith };
        centre = record { field = Integer.blank 3 (past 19 (omega arith)); listed = OneOf.later OneOf.this };
        rest = spaces_past (bond_text x y) 22 (omega (arith, bond_length));
        ends_differ = differ;
      }
