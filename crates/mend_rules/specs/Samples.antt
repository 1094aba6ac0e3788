-- Damaged files, mended.
use Rattle.std.specs.Prelude.{◌≡◌, refl, List, [], ◌∷◌, ◌++◌, map}
use Rattle.text.specs.Text.{Bytes, bytes}
use Rattle.text.specs.Columns.{columns_for}
use Rattle.text.specs.Find.{first_from, bad_column, ink_column, is_blank}
use Rattle.text.specs.Cut.{ended, split, cut}
use Rattle.field_numbers.specs.Number.{decimal_after}
use Rattle.field_numbers.specs.Read.{all_digits, after_spaces, before_spaces, digits_read, after_blank, integer_in, ranged, number_in, signed_ranged, signed_in}
use Rattle.field_coordinates.specs.Read.{point_read, before_point, inked, coordinate_in}
use Rattle.field_symbols.specs.Read.{among, symbol_in}
use Rattle.text.specs.Find.{same_bytes}
use Rattle.rules.specs.Record.{listed, limit}
use Rattle.judge_pairs.specs.Taken.{pair_taken}
use Rattle.judge_line.specs.Got.{then, need}
use Rattle.judge_line.specs.Field.{number_at, signed_at, elem, listed_at, elem_signed, signed_listed_at, coordinate_at, symbol_at, space_at, spaces_from, within}
use Rattle.judge_line.specs.Judge.{begins, contains, first_header_of, counts_of, atom_of, bond_of, entry_number_at, entries_of, list_of, property_of, name_on, opened}
use Rattle.judge_line.specs.Judge.{spaced, arrowed, header_of, item_of, value_of}
use Rattle.judge_file.specs.Place.{to_bonds, to_atoms, line_of, turn_of}
use Rattle.judge_file.specs.Samples.{lines, drum_lines}
use Rattle.mend_rules.specs.Mend.{item_line, all_blank, action_at, emptied, left, actions_of, applied}
use Rattle.mend_rules.specs.Named.{line_put, blank_dropped, lf_added, Fix, fix, fixes_from}
use Rattle.mend_rules.specs.Text.{pieces, joined, actions, mended_pieces, mended_text, fixes}

pub record Sample : Type 0 where
  pub text : Bytes
  pub out : Bytes
  pub list : List Fix

abbrev samples : List Sample
samples =
    -- a blank before the first item, two headers and a `$$$$` line with no blank before them, blanks after the last record, the last one unfinished
    record {
      text = lines (drum_lines ++ ("" ∷ ">  <LOT>" ∷ "00417" ∷ ">  <SITE>" ∷ "N" ∷ "$$$$" ∷ "" ∷ [])) ++ bytes "  ";
      out = lines (drum_lines ++ (">  <LOT>" ∷ "00417" ∷ "" ∷ ">  <SITE>" ∷ "N" ∷ "" ∷ "$$$$" ∷ []));
      list = fix 10 blank_dropped ∷ fix 13 line_put ∷ fix 15 line_put ∷ fix 16 blank_dropped ∷ fix 17 blank_dropped ∷ [];
    } ∷
    -- two entries at one line, the LF last
    record {
      text = lines (drum_lines ++ (">  <LOT>" ∷ "00417" ∷ [])) ++ bytes "$$$$";
      out = lines (drum_lines ++ (">  <LOT>" ∷ "00417" ∷ "" ∷ "$$$$" ∷ []));
      list = fix 12 line_put ∷ fix 12 lf_added ∷ [];
    } ∷
    -- two blanks after the values: the first ends the item, the second is dropped
    record {
      text = lines (drum_lines ++ (">  <LOT>" ∷ "00417" ∷ " " ∷ "" ∷ "$$$$" ∷ []));
      out = lines (drum_lines ++ (">  <LOT>" ∷ "00417" ∷ " " ∷ "$$$$" ∷ []));
      list = fix 13 blank_dropped ∷ [];
    } ∷
    -- no `$$$$` line, so not mended: `$$$$x` at a value place
    record {
      text = lines (drum_lines ++ (">  <LOT>" ∷ "00417" ∷ "$$$$x" ∷ []));
      out = lines (drum_lines ++ (">  <LOT>" ∷ "00417" ∷ "$$$$x" ∷ []));
      list = [];
    } ∷
    -- a file of blanks alone
    record { text = lines ("" ∷ " " ∷ []); out = lines ("" ∷ " " ∷ []); list = [] } ∷
    []

abbrev told : Sample → Sample
told s = record { text = s.text; out = mended_text limit s.text; list = fixes limit s.text }

pub samples_mended : map told samples ≡ samples
unfolding columns_for first_from bad_column ink_column ended split cut decimal_after all_digits after_spaces before_spaces digits_read after_blank integer_in ranged number_in
    signed_ranged signed_in point_read before_point inked coordinate_in same_bytes among symbol_in listed pair_taken then need
    number_at signed_at elem listed_at elem_signed signed_listed_at coordinate_at symbol_at space_at spaces_from within begins contains first_header_of counts_of atom_of
    bond_of entry_number_at entries_of list_of property_of is_blank name_on opened spaced arrowed header_of item_of value_of to_bonds to_atoms line_of turn_of
    item_line all_blank action_at emptied left actions_of applied pieces joined actions mended_pieces mended_text fixes_from fixes
samples_mended = refl
