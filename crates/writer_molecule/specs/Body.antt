-- The text of a molecule after its three header lines, as it is written for tables.
use Rattle.std.specs.Prelude.{ℕ, ◌+◌, ◌*◌, ◌≡◌, refl, List, [], ◌∷◌, ◌++◌, map, length, ℤ}
use Rattle.text.specs.Text.{Bytes, Line, LF}
use Rattle.text.specs.Written.{text}
use Rattle.rules.specs.Record.{Headers, Molecule, Item}
use Rattle.rules.specs.Meaning.{Reading}
use Rattle.rules.specs.Write.{counts_text, atom_text, bond_text, property_text, end_text, molecule_lines}
use Rattle.rules.specs.Canon.{canon}
use Rattle.rules.specs.Rows.{rows_of}
use Rattle.writer_molecule.specs.Properties.{properties_text}

unfoldable pub body_lines : Molecule → List Line
body_lines m = counts_text m.counts ∷ (map atom_text m.atoms ++ (map bond_text m.bonds ++ (map property_text m.properties ++ (end_text ∷ []))))

pub molecule_lines_lem : (m : Molecule) → molecule_lines m ≡ m.headers.first ∷ m.headers.second ∷ m.headers.third ∷ body_lines m
unfolding molecule_lines body_lines
molecule_lines_lem m = refl

-- the reading that flat tables hold
abbrev pub reading_of : Headers → List Item → ℕ → ℕ → ℕ → List ℤ → List ℤ → Reading
reading_of h is n m chiral atoms bonds =
    record { headers = h; n = n; m = m; chiral = chiral; atoms = rows_of 16 n atoms; bonds = rows_of 6 m bonds; items = is }

-- header lines and items have no part in it
unfoldable pub body_text : ℕ → ℕ → ℕ → List ℤ → List ℤ → Bytes
body_text n m chiral atoms bonds = text (body_lines (canon (reading_of (record { first = []; second = []; third = [] }) [] n m chiral atoms bonds)).molecule)

pub body_any : (h : Headers) (is : List Item) (n m chiral : ℕ) (atoms bonds : List ℤ) →
    text (body_lines (canon (reading_of h is n m chiral atoms bonds)).molecule) ≡ body_text n m chiral atoms bonds
unfolding body_text body_lines canon
body_any h is n m chiral atoms bonds = refl

-- property lines and `M  END`
unfoldable pub rest_text : ℕ → List ℤ → Bytes
rest_text n t = properties_text 0 n t ++ (properties_text 1 n t ++ (properties_text 2 n t ++ (end_text ++ (LF ∷ []))))

abbrev pub rest_size : ℕ → List ℤ → ℕ
rest_size n t = length (properties_text 0 n t) + length (properties_text 1 n t) + length (properties_text 2 n t) + 7

-- lines of 40, 70 and 22 bytes, property lines, `M  END`
abbrev pub body_size : ℕ → ℕ → List ℤ → ℕ
body_size n m t = 40 + 70 * n + 22 * m + rest_size n t
