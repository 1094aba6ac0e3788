-- Lines of a row, and their parts as they are laid.
use Rattle.std.specs.Prelude.{ℕ, zero, suc, List, [], ◌∷◌, ◌++◌, Bool, true, ◌&&◌, get_or, ℤ, pos, nat_abs}
use Rattle.text.specs.Text.{Bytes, Line, LF, bytes}
use Rattle.field_numbers.specs.Write.{number_text, signed_text}
use Rattle.field_coordinates.specs.Write.{coordinate_text}
use Rattle.field_symbols.specs.Write.{symbol_text}
use Rattle.rules.specs.Write.{atom_text, bond_text}
use Rattle.rules.specs.Canon.{atom_row, atom_of, bond_row, bond_of, charge_code, is_zero, Rows, WritableAtom}
use Rattle.rules.specs.Rows.{rows_of}

abbrev pub atom_line : List ℤ → Line
atom_line t = atom_text (atom_of (atom_row t))

abbrev pub bond_line : List ℤ → Line
bond_line t = bond_text (bond_of (bond_row t))

-- n atoms that can be written, in a flat table
unfoldable pub WritableAtoms : ℕ → List ℤ → Type 0
WritableAtoms n t = Rows 16 (λ (row : List ℤ). WritableAtom n (atom_row row)) (rows_of 16 n t)

-- three columns for each of so many numbers of a row, from number i on
unfoldable pub columns_from : List ℤ → ℕ → ℕ → Bytes
columns_from t i zero = []
columns_from t i (suc count) = number_text 3 (nat_abs (get_or t i (pos 0))) ++ columns_from t (suc i) count

abbrev pub code_text : List ℤ → Bytes
code_text t = number_text 3 (charge_code (get_or t 5 (pos 0)) (get_or t 6 (pos 0)))

-- columns 1 to 31 of an atom line
unfoldable pub position_text : List ℤ → Bytes
position_text t = coordinate_text (get_or t 0 (pos 0)) ++ (coordinate_text (get_or t 1 (pos 0)) ++ (coordinate_text (get_or t 2 (pos 0)) ++ bytes " "))

-- what follows the symbol in an atom line, its LF included
unfoldable pub values_text : List ℤ → Bytes
values_text t =
    signed_text 2 (get_or t 4 (pos 0)) ++ (code_text t ++ (columns_from t 8 5 ++ (bytes "  0  0" ++ (columns_from t 13 3 ++ (LF ∷ [])))))

-- what follows the type in a bond line, its LF included
unfoldable pub stereo_text : List ℤ → Bytes
stereo_text t = columns_from t 3 1 ++ (bytes "  0" ++ (columns_from t 4 1 ++ (signed_text 3 (get_or t 5 (pos 0)) ++ (LF ∷ []))))

-- whether so many numbers of a row, from number i on, are zeros
unfoldable pub are_zeros : List ℤ → ℕ → ℕ → Bool
are_zeros t i zero = true
are_zeros t i (suc count) = is_zero (get_or t i (pos 0)) && are_zeros t (suc i) count

-- whether all that an atom line has after the symbol is of zeros
abbrev pub is_plain : List ℤ → Bool
is_plain t = are_zeros t 8 8 && are_zeros t 4 3
