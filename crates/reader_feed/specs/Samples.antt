-- What the counter is to write for some inputs: one table, checked by one computation.
use Rattle.std.specs.Prelude.{ℕ, ◌≡◌, refl, List, [], ◌∷◌, ◌++◌, map, take}
use Rattle.text.specs.Text.{Bytes}
use Rattle.text.specs.Columns.{columns_for}
use Rattle.text.specs.Find.{first_from, bad_column, ink_column, same_bytes, line_to, line_at, is_blank}
use Rattle.text.specs.Cut.{ended, split, cut}
use Rattle.field_numbers.specs.Number.{decimal_after}
use Rattle.field_numbers.specs.Read.{all_digits, after_spaces, before_spaces, digits_read, after_blank, integer_in, ranged, number_in, signed_ranged, signed_in}
use Rattle.field_coordinates.specs.Read.{point_read, before_point, inked, coordinate_in}
use Rattle.field_symbols.specs.Read.{among, symbol_in}
use Rattle.rules.specs.Record.{listed}
use Rattle.judge_pairs.specs.Taken.{pair_taken}
use Rattle.judge_line.specs.Got.{then, need}
use Rattle.judge_line.specs.Field.{number_at, signed_at, elem, listed_at, elem_signed, signed_listed_at, coordinate_at, symbol_at, space_at, spaces_from, within}
use Rattle.judge_line.specs.Judge.{begins, contains, first_header_of, counts_of, atom_of, bond_of, entry_number_at, entries_of, list_of, property_of, name_on, opened}
use Rattle.judge_line.specs.Judge.{spaced, arrowed, header_of, item_of, value_of}
use Rattle.judge_file.specs.Place.{to_bonds, to_atoms, line_of, turn_of}
use Rattle.judge_file.specs.One.{one_from, one_record}
use Rattle.judge_file.specs.WalkText.{after_lines}
use Rattle.judge_file.specs.Samples.{drum}
use Rattle.reader_feed.specs.Fed.{piece_of}
use Rattle.reader_feed.specs.Says.{Told, accepted, refused, too_long, says_from, counter_says}

pub record Sample : Type 0 where
  pub room : ℕ
  pub text : Bytes
  pub is : Told

-- 265 bytes, 261 bytes, and 264 bytes whose line 12 is refused
abbrev whole : Bytes
whole = drum "00417" ("" ∷ "$$$$" ∷ [])

abbrev less : Bytes
less = drum "0" ("" ∷ "$$$$" ∷ [])

abbrev wrong : Bytes
wrong = drum "00417" ("$$$$" ∷ [])

abbrev pub samples : List Sample
samples =
    record { room = 65536; text = []; is = accepted 0 } ∷
    -- a record as long as the room, and one a byte longer
    record { room = 265; text = whole; is = accepted 1 } ∷
    record { room = 264; text = whole; is = too_long 1 } ∷
    record { room = 261; text = less ++ whole; is = too_long 2 } ∷
    record { room = 265; text = less ++ whole; is = accepted 2 } ∷
    -- as many bytes as the room, and then the end
    record { room = 264; text = take 264 whole; is = refused 19 13 1 } ∷
    -- lines count from the input's start; the LF of a refused line stands within the room, or a byte past it
    record { room = 65536; text = whole ++ wrong; is = refused 17 25 1 } ∷
    record { room = 264; text = wrong ++ whole; is = refused 17 12 1 } ∷
    record { room = 263; text = wrong; is = too_long 1 } ∷
    []

pub samples_said : map (λ s. counter_says s.room s.text) samples ≡ map (λ s. s.is) samples
unfolding columns_for first_from bad_column ink_column line_to line_at ended split cut decimal_after all_digits after_spaces before_spaces digits_read after_blank integer_in ranged number_in
    signed_ranged signed_in point_read before_point inked coordinate_in same_bytes among symbol_in listed pair_taken then need
    number_at signed_at elem listed_at elem_signed signed_listed_at coordinate_at symbol_at space_at spaces_from within begins contains first_header_of counts_of atom_of
    bond_of entry_number_at entries_of list_of property_of is_blank name_on opened spaced arrowed header_of item_of value_of to_bonds to_atoms line_of turn_of one_from one_record after_lines
    piece_of says_from counter_says
samples_said = refl
