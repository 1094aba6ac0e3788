-- The bench samples of the format, W1 to W12, in one table: texts, and what is read from them or the number, line and column of the refusal. Beside them
-- stand lines for every number from 3 to 19 that a line or the end of a text is refused with, and for each order of two refusals on a line. One computation
-- checks the table. Numbers without a line (1, 2, 20, 21, 22) are no verdict on a text: tables beside the functions that give them show these.
use Rattle.std.specs.Prelude.{ℕ, zero, suc, ◌-◌, ◌≡◌, refl, List, [], ◌∷◌, ◌++◌, map, length, get_or, replicate, ℤ, pos, negsuc}
use Prim.Native.String.{String}
use Rattle.text.specs.Text.{Bytes, LF, bytes}
use Rattle.text.specs.Columns.{columns_for}
use Rattle.text.specs.Find.{first_from, bad_column, ink_column, is_blank}
use Rattle.text.specs.Cut.{ended, split, cut}
use Rattle.text.specs.Written.{text}
use Rattle.field_numbers.specs.Number.{decimal_after}
use Rattle.field_numbers.specs.Read.{all_digits, after_spaces, before_spaces, digits_read, after_blank, integer_in, ranged, number_in, signed_ranged, signed_in}
use Rattle.field_numbers.specs.Write.{text_by}
use Rattle.field_coordinates.specs.Write.{point_text}
use Rattle.field_symbols.specs.Write.{symbol_text}
use Rattle.field_coordinates.specs.Read.{point_read, before_point, inked, coordinate_in}
use Rattle.field_symbols.specs.Read.{among, symbol_in}
use Rattle.text.specs.Find.{same_bytes}
use Rattle.rules.specs.Record.{Item, Raw, listed, limit}
use Rattle.rules.specs.Meaning as M
use Rattle.rules.specs.Write.{joined, counts_text, atom_text, bond_text, entry_fields, property_text, header_text, items_lines, molecule_lines, record_lines, file_lines}
use Rattle.rules.specs.Canon as C
use Rattle.rules.specs.Canon.{charge_code, entries_from, eights, properties_of, canon, canon_file}
use Rattle.judge_pairs.specs.Taken.{pair_taken}
use Rattle.judge_line.specs.Got.{then, need}
use Rattle.judge_line.specs.Field.{number_at, signed_at, elem, listed_at, elem_signed, signed_listed_at, coordinate_at, symbol_at, space_at, spaces_from, within}
use Rattle.judge_line.specs.Judge.{begins, contains, first_header_of, counts_of, atom_of, bond_of, entry_number_at, entries_of, list_of, property_of, name_on, opened}
use Rattle.judge_line.specs.Judge.{spaced, arrowed, header_of, item_of, value_of}
use Rattle.judge_file.specs.Place.{FileKind, molfile, sdfile, to_bonds, to_atoms, line_of, turn_of}
use Rattle.judge_file.specs.Verdict.{Verdict, accepted, refused, run, verdict}

-- lines, each with its LF
abbrev pub lines : List String → Bytes
lines [] = []
lines (l ∷ ls) = bytes l ++ (LF ∷ lines ls)

-- what a sample shows of good records, or the refusal
pub data Shown : Type 0 where
  shows : List ℤ → Shown
  stops : ℕ → ℕ → ℕ → Shown

pub record Sample : Type 0 where
  pub kind : FileKind
  pub text : Bytes
  pub look : List Raw → List ℤ
  pub is : Shown

abbrev pub show : (List Raw → List ℤ) → Verdict (List Raw) → Shown
show look (accepted xs) = shows (look xs)
show look (refused e i column) = stops e i column

-- ---- What is looked at

abbrev pub records : List Raw → List ℤ
records xs = pos (length xs) ∷ []

-- entry j, from 1, of each atom's numbers
abbrev pub atom_entries : ℕ → List Raw → List ℤ
atom_entries j [] = []
atom_entries j (x ∷ xs) = map (λ a. get_or a (j - 1) (pos 0)) (M.meaning x).atoms

abbrev pub item_bytes : List Item → List ℤ
item_bytes [] = []
item_bytes (i ∷ is) = map (λ b. pos b) (get_or i.values 0 [])

-- all records, as they are written
abbrev pub written_back : List Raw → List ℤ
written_back xs = map (λ b. pos b) (text (canon_file (map M.meaning xs)))

-- the first value line of the first item
abbrev pub first_value : List Raw → List ℤ
first_value [] = []
first_value (x ∷ xs) = item_bytes x.items

-- ---- The texts

-- lines after three empty header lines
abbrev pub headed : List String → Bytes
headed ls = lines ("" ∷ "" ∷ "" ∷ ls)

-- lines after a molfile without atoms
abbrev pub bare : List String → Bytes
bare ls = headed ("  0  0  0  0  0  0  0  0  0  0999 V2000" ∷ "M  END" ∷ ls)

-- one atom, with x as written
abbrev pub one_atom : String → Bytes
one_atom x =
    lines ("" ∷ "" ∷ "" ∷ "  1  0  0  0  0  0  0  0  0  0999 V2000" ∷ [])
    ++ (bytes x ++ lines ("    0.0000    0.0000 C   0  0  0  0  0  0  0  0  0  0  0  0" ∷ "M  END" ∷ []))

-- a molfile of carbon atoms, with the counts line and what follows the atoms
abbrev pub carbons : String → ℕ → List String → Bytes
carbons counts n after = lines ("" ∷ "" ∷ "" ∷ counts ∷ (atoms n ++ after))
  where
    atoms : ℕ → List String
    atoms zero = []
    atoms (suc n) = "    0.0000    0.0000    0.0000 C   0  0  0  0  0  0  0  0  0  0  0  0" ∷ atoms n

-- the drum's record, without items
abbrev pub drum_lines : List String
drum_lines =
    "AB-00417" ∷
    "" ∷
    "drum 3" ∷
    "  2  1  0  0  0  0  0  0  0  0999 V2000" ∷
    "    0.0000    0.0000    0.0000 C   0  0  0  0  0  0  0  0  0  0  0  0" ∷
    "    1.2500   -0.8250    0.0000 O   0  5  0  0  0  0  0  0  0  0  0  0" ∷
    "  1  2  1  0  0  0  0" ∷
    "M  CHG  1   2  -1" ∷
    "M  END" ∷
    []

-- the drum's record with one item: its value, and the lines after that
abbrev pub drum : String → List String → Bytes
drum value after = lines (drum_lines ++ (">  <LOT>" ∷ value ∷ after))

-- ---- The table

abbrev pub reads : FileKind → Bytes → (List Raw → List ℤ) → List ℤ → Sample
reads kind text look zs = record { kind = kind; text = text; look = look; is = shows zs }

-- number, line and column
abbrev pub refuses : FileKind → Bytes → ℕ → ℕ → ℕ → Sample
refuses kind text e i column = record { kind = kind; text = text; look = records; is = stops e i column }

abbrev pub the_sample : Bytes
the_sample = drum "00417" ("" ∷ "$$$$" ∷ [])

abbrev pub samples : List Sample
samples =
    -- W1, W3: the greatest coordinate, and one with its point in another column
    reads molfile (one_atom "99999.9999") (atom_entries 1) (pos 999999999 ∷ []) ∷
    refuses molfile (one_atom "-99999.999") 7 5 1 ∷
    -- W5: a bond end of 0
    refuses molfile (carbons "  2  1  0  0  0  0  0  0  0  0999 V2000" 2 ("  0  2  1  0  0  0  0" ∷ [])) 8 7 1 ∷
    -- W6, W7: more bonds than pairs, and as many
    refuses molfile (headed ("  1  1  0  0  0  0  0  0  0  0999 V2000" ∷ [])) 12 4 4 ∷
    reads molfile (carbons "  3  3  0  0  0  0  0  0  0  0999 V2000" 3 ("  1  2  1  0  0  0  0" ∷ "  2  3  1  0  0  0  0" ∷ "  3  1  1  0  0  0  0" ∷ "M  END" ∷ [])) records (pos 1 ∷ []) ∷
    -- W8, W9: values keep their bytes, and may begin like a header
    reads sdfile the_sample first_value (map (λ b. pos b) (bytes "00417")) ∷
    reads sdfile (drum ">98%" ("" ∷ "$$$$" ∷ [])) first_value (map (λ b. pos b) (bytes ">98%")) ∷
    -- W10: the blank line after the values is missing
    refuses sdfile (drum "00417" ("$$$$" ∷ [])) 17 12 1 ∷
    -- W11: no bytes
    reads sdfile [] records (pos 0 ∷ []) ∷
    refuses molfile [] 19 1 1 ∷
    -- W12: the charges of the sample's atoms, and the sample written back as itself
    reads sdfile the_sample (atom_entries 6) (pos 0 ∷ negsuc 0 ∷ []) ∷
    reads sdfile the_sample written_back (map (λ b. pos b) the_sample) ∷
    -- 3 before 4 before 5: all three, the last two, the last
    refuses molfile (127 ∷ (bytes "$$$$" ++ (replicate 76 120 ++ (LF ∷ [])))) 3 1 81 ∷
    refuses molfile (bytes "$$$$" ++ (127 ∷ LF ∷ [])) 4 1 5 ∷
    refuses molfile (lines ("of $RXN" ∷ [])) 5 1 1 ∷
    -- numbers on the left of their fields, and a `+` before a charge
    reads molfile (carbons "1  0  0  0  0  0  0  0  0  0  999 V2000" 1 ("M  CHG1   1   +1" ∷ "M  END" ∷ [])) (atom_entries 6) (pos 1 ∷ []) ∷
    -- 7: a `+` where no `-` may stand, a space between digits, a sign alone, a space after a sign; 8: a list of atoms
    refuses molfile (headed ("+1   0  0  0  0  0  0  0  0  0999 V2000" ∷ [])) 7 4 1 ∷
    refuses molfile (headed ("1 2  0  0  0  0  0  0  0  0  0999 V2000" ∷ [])) 7 4 1 ∷
    refuses molfile (carbons "  1  0  0  0  0  0  0  0  0  0999 V2000" 1 ("M  CHG  1   1   -" ∷ [])) 7 6 15 ∷
    refuses molfile (carbons "  1  0  0  0  0  0  0  0  0  0999 V2000" 1 ("M  CHG  1   1 + 1" ∷ [])) 7 6 15 ∷
    refuses molfile (headed ("  0  0  1  0  0  0  0  0  0  0999 V2000" ∷ [])) 8 4 7 ∷
    -- 12 before the columns to its right
    refuses molfile (headed ("  1  1  x  0  0  0  0  0  0  0999 V2000" ∷ [])) 12 4 4 ∷
    -- 6 before the columns after it; 15 there
    refuses molfile (headed ("  0  0  0  0  0  0  0  0  0  0999 V3000 x" ∷ [])) 6 4 34 ∷
    refuses molfile (headed ("  0  0  0  0  0  0  0  0  0  0999 V2000 x" ∷ [])) 15 4 41 ∷
    -- 15 between coordinate and symbol; 9: a symbol in other capitals, or not in the first of its columns
    refuses molfile (carbons "  1  0  0  0  0  0  0  0  0  0999 V2000" 0 ("    0.0000    0.0000    0.0000xCL  0  0" ∷ [])) 15 5 31 ∷
    refuses molfile (carbons "  1  0  0  0  0  0  0  0  0  0999 V2000" 0 ("    0.0000    0.0000    0.0000 CL  0  0" ∷ [])) 9 5 32 ∷
    refuses molfile (carbons "  1  0  0  0  0  0  0  0  0  0999 V2000" 0 ("    0.0000    0.0000    0.0000  C  0  0" ∷ [])) 9 5 32 ∷
    -- 15 before 10; 10. A pair with equal ends is never bonded before, so 10 and 11 do not meet.
    refuses molfile (carbons "  2  1  0  0  0  0  0  0  0  0999 V2000" 2 ("  1  1  1  0  0  0  0 x" ∷ [])) 15 7 23 ∷
    refuses molfile (carbons "  2  1  0  0  0  0  0  0  0  0999 V2000" 2 ("  1  1  1  0  0  0  0" ∷ [])) 10 7 1 ∷
    -- 15 before 11; 11 for a pair the other way round
    refuses molfile (carbons "  3  2  0  0  0  0  0  0  0  0999 V2000" 3 ("  1  2  1  0  0  0  0" ∷ "  2  1  1  0  0  0  0 x" ∷ [])) 15 9 23 ∷
    refuses molfile (carbons "  3  2  0  0  0  0  0  0  0  0999 V2000" 3 ("  1  2  1  0  0  0  0" ∷ "  2  1  1  0  0  0  0" ∷ [])) 11 9 1 ∷
    -- 13
    refuses molfile (headed ("  0  0  0  0  0  0  0  0  0  0999 V2000" ∷ "M END" ∷ [])) 13 5 1 ∷
    -- 8 and not 14 for an atom that the record does not have; 14 on one line before the number of that entry, and from line to line
    refuses molfile (carbons "  1  0  0  0  0  0  0  0  0  0999 V2000" 1 ("M  CHG  2   2   1   2   1" ∷ [])) 8 6 11 ∷
    refuses molfile (carbons "  1  0  0  0  0  0  0  0  0  0999 V2000" 1 ("M  CHG  2   1   1   1  99" ∷ [])) 14 6 19 ∷
    refuses molfile (carbons "  1  0  0  0  0  0  0  0  0  0999 V2000" 1 ("M  RAD  1   1   2" ∷ "M  RAD  1   1   2" ∷ [])) 14 7 11 ∷
    -- 16 and never 15
    refuses sdfile (bare ("$$$$ x" ∷ [])) 16 6 1 ∷
    refuses sdfile (bare (">  <LOT> x" ∷ [])) 16 6 1 ∷
    refuses sdfile (bare ("" ∷ [])) 16 6 1 ∷
    -- 17: a header, and a line that only begins as the end of a record does
    refuses sdfile (bare (">  <LOT>" ∷ ">  <LOT>" ∷ [])) 17 7 1 ∷
    refuses sdfile (bare (">  <LOT>" ∷ "$$$$ x" ∷ [])) 17 7 1 ∷
    -- 3 where a value may stand, and where a header must
    refuses sdfile (bare (">  <LOT>" ∷ []) ++ (replicate 201 32 ++ (LF ∷ []))) 3 7 201 ∷
    refuses sdfile (bare [] ++ (bytes ">  <LOT>" ++ (replicate 73 32 ++ (LF ∷ [])))) 3 6 81 ∷
    -- 18, and 4 before it
    refuses molfile (bare ("" ∷ [])) 18 6 1 ∷
    refuses molfile (bare [] ++ (127 ∷ LF ∷ [])) 4 6 1 ∷
    -- a line of a later record
    refuses sdfile (bare ("$$$$" ∷ "$$$$" ∷ [])) 5 7 1 ∷
    -- 19: an unfinished line, whatever it holds, and a record that goes on
    refuses molfile (bare [] ++ (127 ∷ [])) 19 6 1 ∷
    refuses sdfile (bare []) 19 6 1 ∷
    []

pub samples_judged : map (λ s. show s.look (verdict s.kind limit s.text)) samples ≡ map (λ s. s.is) samples
unfolding columns_for first_from bad_column ink_column ended split cut decimal_after all_digits after_spaces before_spaces digits_read after_blank integer_in ranged number_in
    signed_ranged signed_in point_read before_point inked coordinate_in same_bytes among symbol_in listed M.among M.number_in M.atoms_from M.meaning pair_taken then need
    number_at signed_at elem listed_at elem_signed signed_listed_at coordinate_at symbol_at space_at spaces_from within begins contains first_header_of counts_of atom_of
    bond_of entry_number_at entries_of list_of property_of is_blank name_on opened spaced arrowed header_of item_of value_of to_bonds to_atoms line_of turn_of run verdict
    file_lines record_lines molecule_lines items_lines header_text counts_text atom_text bond_text property_text entry_fields joined text_by point_text symbol_text canon
    properties_of C.atom_of C.bond_of eights charge_code entries_from text
samples_judged = refl
