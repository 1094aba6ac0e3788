-- What is fetched from samples, and what is refused, in one table, checked by one computation.
use Prim.Native.String.{String}
use Rattle.std.specs.Prelude.{◌≡◌, refl, List, [], ◌∷◌, ◌++◌, map}
use Rattle.text.specs.Text.{Bytes, CR, LF, bytes}
use Rattle.text.specs.Columns.{columns_for}
use Rattle.text.specs.Find.{first_from, bad_column, ink_column, line_to, line_at, same_bytes, is_blank}
use Rattle.text.specs.Cut.{ended, split, cut}
use Rattle.field_numbers.specs.Number.{decimal_after}
use Rattle.field_numbers.specs.Read.{all_digits, after_spaces, before_spaces, digits_read, after_blank, integer_in, ranged, number_in, signed_ranged, signed_in}
use Rattle.field_coordinates.specs.Read.{point_read, before_point, inked, coordinate_in}
use Rattle.field_symbols.specs.Read.{among, symbol_in}
use Rattle.rules.specs.Record.{listed}
use Rattle.judge_pairs.specs.Taken.{pair_taken}
use Rattle.judge_line.specs.Got.{then, need}
use Rattle.judge_line.specs.Field.{number_at, signed_at, elem, listed_at, elem_signed, signed_listed_at, coordinate_at, symbol_at, space_at, spaces_from, within}
use Rattle.judge_line.specs.Judge.{begins, contains, first_header_of, counts_of, atom_of, bond_of, entry_number_at, entries_of, list_of, property_of, name_on, opened}
use Rattle.judge_line.specs.Judge.{spaced, arrowed, header_of, item_of, value_of}
use Rattle.judge_file.specs.Place.{to_bonds, to_atoms, line_of, turn_of}
use Rattle.judge_file.specs.One.{one_from, one_record}
use Rattle.judge_file.specs.WalkText.{after_lines}
use Rattle.judge_file.specs.Samples.{lines, drum}
use Rattle.reader_walk.specs.Outcome.{outcome_of}
use Rattle.reader_item.specs.Find.{line_end, Said, item, refused, spot_of, found_of, part_of}

pub record Sample : Type 0 where
  pub text : Bytes
  pub name : String
  pub is : Said
  pub part : Bytes

-- a record without atoms, and its items
abbrev pub bare : Bytes → Bytes
bare items = lines ("" ∷ "" ∷ "" ∷ "  0  0  0  0  0  0  0  0  0  0999 V2000" ∷ "M  END" ∷ []) ++ (items ++ lines ("$$$$" ∷ []))

-- lines that end in CR LF
abbrev pub cr_lines : List String → Bytes
cr_lines [] = []
cr_lines (l ∷ ls) = bytes l ++ (CR ∷ LF ∷ cr_lines ls)

-- an item without values, and two of one name
abbrev pub three_items : List String
three_items = ">  <MADE>" ∷ "" ∷ ">  <LOT>" ∷ "00417" ∷ " 7" ∷ "" ∷ ">  <LOT>" ∷ "00418" ∷ "" ∷ []

abbrev pub samples : List Sample
samples =
    -- five bytes, as they stand; what follows the record does not matter
    record { text = drum "00417" ("" ∷ "$$$$" ∷ []); name = "LOT"; is = item 253 258; part = bytes "00417" } ∷
    record { text = drum "00417" ("" ∷ "$$$$" ∷ "$MDL" ∷ []); name = "LOT"; is = item 253 258; part = bytes "00417" } ∷
    -- the first of two items, up to the end of its last line
    record { text = bare (lines three_items); name = "LOT"; is = item 70 78; part = bytes "00417" ++ (LF ∷ bytes " 7") } ∷
    record { text = bare (cr_lines three_items); name = "LOT"; is = item 73 82; part = bytes "00417" ++ (CR ∷ LF ∷ bytes " 7") } ∷
    -- no value lines
    record { text = bare (lines three_items); name = "MADE"; is = item 0 0; part = [] } ∷
    -- no such item: a name is its bytes
    record { text = bare (lines three_items); name = "lot"; is = refused 22 0 0; part = [] } ∷
    record { text = bare (lines three_items); name = "LO"; is = refused 22 0 0; part = [] } ∷
    record { text = bare []; name = ""; is = refused 22 0 0; part = [] } ∷
    -- the record's own refusal comes first
    record { text = drum "00417" ("$$$$" ∷ []); name = "LOT"; is = refused 17 12 1; part = [] } ∷
    record { text = drum "00417" ("" ∷ []); name = "LOT"; is = refused 19 13 1; part = [] } ∷
    record { text = []; name = "LOT"; is = refused 19 1 1; part = [] } ∷
    []

pub samples_found : map (λ s. found_of s.text (bytes s.name)) samples ≡ map (λ s. s.is) samples
unfolding columns_for first_from bad_column ink_column line_to line_at same_bytes ended split cut decimal_after all_digits after_spaces before_spaces digits_read after_blank integer_in ranged number_in
    signed_ranged signed_in point_read before_point inked coordinate_in among symbol_in listed pair_taken then need
    number_at signed_at elem listed_at elem_signed signed_listed_at coordinate_at symbol_at space_at spaces_from within begins contains first_header_of counts_of atom_of
    bond_of entry_number_at entries_of list_of property_of is_blank name_on opened spaced arrowed header_of item_of value_of to_bonds to_atoms line_of turn_of one_from one_record
    after_lines outcome_of line_end spot_of found_of
samples_found = refl

pub samples_handed : map (λ s. part_of s.is s.text) samples ≡ map (λ s. s.part) samples
unfolding part_of
samples_handed = refl
