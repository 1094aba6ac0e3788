-- How a record is written, line by line. Numbers stand at the right of their columns, free columns hold 0, and no line goes on after its last field.
use Rattle.std.specs.Prelude.{List, [], ◌∷◌, ◌++◌, map, length}
use Rattle.text.specs.Text.{Bytes, Line, bytes}
use Rattle.field_numbers.specs.Write.{number_text, signed_text}
use Rattle.field_coordinates.specs.Write.{coordinate_text}
use Rattle.field_symbols.specs.Write.{symbol_text}
use Rattle.rules.specs.Forms.{Counts, Atom, Bond, Entry, Property, tag}
use Rattle.rules.specs.Record.{Molecule, Item, Raw}

-- one field after the other
unfoldable pub joined : List Bytes → Line
joined [] = []
joined (f ∷ fs) = f ++ joined fs

-- aaabbblllfffcccsssxxxrrrpppiiimmmvvvvvv
--   2  1  0  0  0  0  0  0  0  0999 V2000
abbrev pub counts_fields : Counts → List Bytes
counts_fields c =
    number_text 3 c.atoms ∷
    number_text 3 c.bonds ∷
    bytes "  0" ∷
    bytes "  0" ∷
    number_text 3 c.chiral ∷
    bytes "  0" ∷
    bytes "  0  0  0  0999" ∷
    bytes " V2000" ∷ []

unfoldable pub counts_text : Counts → Line
counts_text c = joined (counts_fields c)

-- xxxxx.xxxxyyyyy.yyyyzzzzz.zzzz aaaddcccssshhhbbbvvvHHHrrriiimmmnnneee
--     1.2500   -0.8250    0.0000 O   0  5  0  0  0  0  0  0  0  0  0  0
abbrev pub atom_fields : Atom → List Bytes
atom_fields a =
    coordinate_text a.x ∷
    coordinate_text a.y ∷
    coordinate_text a.z ∷
    bytes " " ∷
    symbol_text a.symbol ∷
    signed_text 2 a.mass_difference ∷
    number_text 3 a.charge_code ∷
    number_text 3 a.parity ∷
    number_text 3 a.hydrogen_count ∷
    number_text 3 a.stereo_care ∷
    number_text 3 a.valence ∷
    number_text 3 a.H0 ∷
    bytes "  0  0" ∷
    number_text 3 a.atom_map ∷
    number_text 3 a.inversion ∷
    number_text 3 a.exact_change ∷ []

unfoldable pub atom_text : Atom → Line
atom_text a = joined (atom_fields a)

-- 111222tttsssxxxrrrccc
--   1  2  1  0  0  0  0
abbrev pub bond_fields : Bond → List Bytes
bond_fields b =
    number_text 3 b.first ∷
    number_text 3 b.second ∷
    number_text 3 b.type ∷
    number_text 3 b.stereo ∷
    bytes "  0" ∷
    number_text 3 b.topology ∷
    signed_text 3 b.centre ∷ []

unfoldable pub bond_text : Bond → Line
bond_text b = joined (bond_fields b)

unfoldable pub entry_fields : List Entry → List Bytes
entry_fields [] = []
entry_fields (e ∷ es) = bytes " " ∷ number_text 3 e.atom ∷ bytes " " ∷ signed_text 3 e.number ∷ entry_fields es

-- M  CHG  1   2  -1
abbrev pub property_fields : Property → List Bytes
property_fields p = bytes (tag p.kind) ∷ number_text 3 (length p.entries) ∷ entry_fields p.entries

unfoldable pub property_text : Property → Line
property_text p = joined (property_fields p)

abbrev pub end_text : Line
end_text = bytes "M  END"

-- >  <LOT>
unfoldable pub header_text : Bytes → Line
header_text name = bytes ">  <" ++ (name ++ bytes ">")

abbrev pub close_text : Line
close_text = bytes "$$$$"

-- each item's header, values and empty line, then the line that ends the record
unfoldable pub items_lines : List Item → List Line
items_lines [] = close_text ∷ []
items_lines (i ∷ is) = header_text i.name ∷ (i.values ++ ([] ∷ items_lines is))

-- up to the line that ends the properties
unfoldable pub molecule_lines : Molecule → List Line
molecule_lines m =
    m.headers.first ∷ m.headers.second ∷ m.headers.third ∷ counts_text m.counts ∷
    (map atom_text m.atoms ++ (map bond_text m.bonds ++ (map property_text m.properties ++ (end_text ∷ []))))

unfoldable pub record_lines : Raw → List Line
record_lines x = molecule_lines x.molecule ++ items_lines x.items

unfoldable pub file_lines : List Raw → List Line
file_lines [] = []
file_lines (x ∷ xs) = record_lines x ++ file_lines xs
