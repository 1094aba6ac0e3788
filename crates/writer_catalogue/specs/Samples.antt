-- What is written for small files, and what is refused, in one table, checked by one computation.
use Rattle.std.specs.Prelude.{ℕ, ◌+◌, ◌-◌, ◌≡◌, refl, List, [], ◌∷◌, ◌++◌, map, length, replicate, ℤ, pos}
use Prim.Native.String.{String}
use Rattle.text.specs.Text.{Bytes}
use Rattle.text.specs.Columns.{columns_for}
use Rattle.text.specs.Find.{first_from, bad_column, ink_column, same_bytes, is_blank}
use Rattle.text.specs.Cut.{ended, split, cut}
use Rattle.text.specs.Written.{text}
use Rattle.field_numbers.specs.Number.{decimal_after}
use Rattle.field_numbers.specs.Read.{all_digits, after_spaces, before_spaces, digits_read, after_blank, integer_in, ranged, number_in, signed_ranged, signed_in}
use Rattle.field_numbers.specs.Write.{text_by}
use Rattle.field_coordinates.specs.Read.{point_read, before_point, inked, coordinate_in}
use Rattle.field_coordinates.specs.Write.{point_text}
use Rattle.field_symbols.specs.Read.{among, symbol_in}
use Rattle.field_symbols.specs.Write.{symbol_text}
use Rattle.rules.specs.Record.{listed, atom_places, bond_places}
use Rattle.rules.specs.Meaning as M
use Rattle.rules.specs.Write.{joined, counts_text, atom_text, bond_text, entry_fields, property_text, header_text, items_lines, molecule_lines, record_lines, file_lines}
use Rattle.rules.specs.Canon as C
use Rattle.judge_pairs.specs.Taken.{pair_taken}
use Rattle.judge_line.specs.Got.{then, need}
use Rattle.judge_line.specs.Field.{number_at, signed_at, elem, listed_at, elem_signed, signed_listed_at, coordinate_at, symbol_at, space_at, spaces_from, within}
use Rattle.judge_line.specs.Judge.{begins, contains, first_header_of, counts_of, atom_of, bond_of, entry_number_at, entries_of, list_of, property_of, name_on, opened}
use Rattle.judge_line.specs.Judge.{spaced, arrowed, header_of, item_of, value_of}
use Rattle.judge_file.specs.Place.{to_bonds, to_atoms, line_of, turn_of}
use Rattle.judge_file.specs.Verdict.{run, verdict}
use Rattle.judge_file.specs.Samples.{lines, drum}
use Rattle.reader_answer.specs.Read.{rows_in}
use Rattle.writer_record.specs.Write.{roomy}
use Rattle.writer_answer.specs.declared.Catalogue.{Catalogue}
use Rattle.writer_answer.specs.Catalogue.{catalogue_text, file_for, catalogue_for, catalogue_of, room_after, atoms_after, bonds_after}

pub record Sample : Type 0 where
  pub file : Bytes
  pub atoms : List ℤ
  pub bonds : List ℤ
  pub room : Bytes
  pub answer : Catalogue
  pub atoms_after_lem : List ℤ
  pub bonds_after_lem : List ℤ
  pub room_after_lem : Bytes

-- the record of thirteen lines, which is written back as itself
abbrev whole : Bytes
whole = drum "00417" ("" ∷ "$$$$" ∷ [])

-- the same record written otherwise: counts, coordinates, codes, property line, item header and blank line
abbrev loose : Bytes
loose =
    lines
    ("AB-00417" ∷
    "" ∷
    "drum 3" ∷
    "  2  1              0             V2000  " ∷
    "   -0.0000          00000.0000 C" ∷
    "    1.2500   -0.8250    0.0000 O   0  0" ∷
    "  1  2001" ∷
    "M  CHG  2   1   0   2 -01" ∷
    "M  END " ∷
    "> <LOT> " ∷
    "00417" ∷
    "  " ∷
    "$$$$ " ∷
    [])

-- room that holds nothing but `x`, and work tables of one place more than they need that hold nothing but 7
abbrev lent : ℕ → Bytes
lent k = replicate k 120

abbrev sevens : ℕ → List ℤ
sevens k = replicate k (pos 7)

abbrev emptied : ℕ → List ℤ
emptied k = replicate k (pos 0) ++ sevens 1

abbrev made : Bytes → ℕ → Catalogue → Bytes → Sample
made s k a r =
    record { file = s; atoms = sevens (atom_places + 1); bonds = sevens (bond_places + 1); room = lent k; answer = a; atoms_after_lem = emptied atom_places; bonds_after_lem = emptied bond_places; room_after_lem = r }

abbrev pub samples : List Sample
samples =
    -- no records
    made [] 0 (Catalogue.Done 0 0) [] ∷
    made (loose ++ whole) 532 (Catalogue.Done 530 2) (whole ++ (whole ++ lent 2)) ∷
    -- no room
    made (whole ++ loose) 529 (Catalogue.Refused 20 0 0) (lent 529) ∷
    -- before that a bad last record, before that small tables
    made (whole ++ drum "00417" ("$$$$" ∷ [])) 0 (Catalogue.Refused 17 25 1) [] ∷
    record {
      file = drum "00417" ("$$$$" ∷ []);
      atoms = sevens (atom_places - 1);
      bonds = sevens bond_places;
      room = lent 1;
      answer = Catalogue.Refused 2 0 0;
      atoms_after_lem = sevens (atom_places - 1);
      bonds_after_lem = sevens bond_places;
      room_after_lem = lent 1;
    } ∷
    []

-- the answer and the memory that the definitions give
abbrev done : Sample → Sample
done x =
    record {
      file = x.file;
      atoms = x.atoms;
      bonds = x.bonds;
      room = x.room;
      answer = catalogue_of x.atoms x.bonds x.file (length x.room);
      atoms_after_lem = atoms_after x.atoms x.bonds;
      bonds_after_lem = bonds_after x.atoms x.bonds;
      room_after_lem = room_after x.atoms x.bonds x.file x.room;
    }

pub samples_written : map done samples ≡ samples
unfolding columns_for first_from bad_column ink_column same_bytes ended split cut text decimal_after all_digits after_spaces before_spaces digits_read after_blank integer_in ranged
    number_in signed_ranged signed_in text_by point_read before_point inked coordinate_in point_text among symbol_in symbol_text listed M.among M.number_in M.atoms_from
    M.meaning joined counts_text atom_text bond_text entry_fields property_text header_text items_lines molecule_lines record_lines file_lines C.charge_code C.atom_of
    C.bond_of C.entries_from C.eights C.properties_of C.canon pair_taken then need number_at signed_at elem listed_at elem_signed signed_listed_at coordinate_at symbol_at
    space_at spaces_from within begins contains first_header_of counts_of atom_of bond_of entry_number_at entries_of list_of property_of is_blank name_on opened spaced
    arrowed header_of item_of value_of to_bonds to_atoms line_of turn_of run verdict rows_in roomy catalogue_text file_for catalogue_for catalogue_of room_after atoms_after
    bonds_after
samples_written = refl
