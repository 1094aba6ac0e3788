-- What is written for samples, and what is refused, in one table, checked by one computation. The first is the record of thirteen lines, which is written
-- back as itself.
use Rattle.std.specs.Prelude.{Result, Ok, Err, ℕ, ◌-◌, ◌≡◌, refl, List, [], ◌∷◌, ◌++◌, map, length, replicate, pos, negsuc}
use Rattle.text.specs.Text.{Bytes}
use Rattle.text.specs.Columns.{columns_for}
use Rattle.text.specs.Find.{first_from, bad_column, is_blank}
use Rattle.text.specs.Cut.{ended, split, cut}
use Rattle.text.specs.Written.{text}
use Rattle.field_numbers.specs.Read.{after_spaces}
use Rattle.field_numbers.specs.Write.{text_by}
use Rattle.field_coordinates.specs.Write.{point_text}
use Rattle.field_symbols.specs.Write.{symbol_text}
use Rattle.rules.specs.Write.{joined, counts_text, atom_text, bond_text, entry_fields, property_text, header_text, items_lines, molecule_lines, record_lines}
use Rattle.rules.specs.Canon.{charge_code, atom_of, bond_of, entries_from, eights, properties_of, canon}
use Rattle.rules.specs.Samples.{atom, bond}
use Rattle.rules.specs.Record.{atom_places, bond_places}
use Rattle.judge_line.specs.Got.{then, need}
use Rattle.judge_line.specs.Field.{within, elem_signed}
use Rattle.judge_line.specs.Judge.{begins, contains, first_header_of, name_on, opened, spaced, arrowed, header_of, item_of, value_of}
use Rattle.rules.specs.Rows.{rows_of}
use Rattle.judge_parts.specs.Part.{run, verdict_from, header_line, header_turn, headers_verdict, item_turn, items_verdict}
use Rattle.judge_file.specs.Samples.{lines, the_sample}
use Rattle.writer_row.specs.Row.{in_range, marks, place_holds, numbers_hold, codes_hold, changes_hold, atom_holds, kind_holds, bond_holds}
use Rattle.writer_tables.specs.Tables.{all_rows, masses_hold, same_ends, same_at, against, walk_from, counts_hold, tables_hold, writable_tables}
use Rattle.writer_record.specs.Write.{Given, roomy, record_for, text_for, write_of, room_after}
use Rattle.judge_file.specs.declared.TextRefusal.{TextRefusal}

pub record Sample : Type 0 where
  pub given : Given
  pub room : Bytes
  pub answer : Result ℕ TextRefusal
  pub after : Bytes

-- two atoms and a bond, in tables with room for so many
abbrev drum_in : ℕ → ℕ → ℕ → ℕ → Bytes → Bytes → Given
drum_in atoms bonds n m headers items =
    record {
      atoms = atom (pos 0) (pos 0) 6 (pos 0) ++ (atom (pos 12500) (negsuc 8249) 8 (negsuc 0) ++ replicate atoms (pos 0));
      bonds = bond 1 2 ++ replicate bonds (pos 0);
      n = n;
      m = m;
      chiral = 0;
      headers = headers;
      items = items;
    }

abbrev drum : Bytes → Bytes → Given
drum headers items = drum_in (atom_places - 32) (bond_places - 6) 2 1 headers items

abbrev three : Bytes
three = lines ("AB-00417" ∷ "" ∷ "drum 3" ∷ [])

abbrev lot : Bytes
lot = lines (">  <LOT>" ∷ "00417" ∷ "" ∷ [])

-- room that holds nothing but `x`
abbrev lent : ℕ → Bytes
lent k = replicate k 120

abbrev kept : Given → ℕ → Result ℕ TextRefusal → Sample
kept g k a = record { given = g; room = lent k; answer = a; after = lent k }

abbrev pub samples : List Sample
samples =
    record { given = drum three lot; room = lent 265; answer = Ok 265; after = the_sample } ∷
    record { given = drum three lot; room = lent 267; answer = Ok 265; after = the_sample ++ lent 2 } ∷
    -- an item's header and blank line are written anew
    record { given = drum three (lines ("> <LOT>  " ∷ "00417" ∷ " " ∷ [])); room = lent 265; answer = Ok 265; after = the_sample } ∷
    -- no room
    kept (drum three lot) 264 (Err (record { no = 20; line = 0; column = 0 })) ∷
    -- before that a bad item, before that a bad header line, before that tables that cannot be written, before that small tables
    kept (drum three (lot ++ lines ("$$$$" ∷ []))) 264 (Err (record { no = 16; line = 4; column = 1 })) ∷
    kept (drum (lines ("" ∷ "" ∷ [])) (lines ("$$$$" ∷ []))) 264 (Err (record { no = 19; line = 3; column = 1 })) ∷
    kept (drum_in (atom_places - 32) (bond_places - 6) 1 1 [] []) 264 (Err (record { no = 21; line = 0; column = 0 })) ∷
    kept (drum_in (atom_places - 33) (bond_places - 6) 1 1 [] []) 264 (Err (record { no = 2; line = 0; column = 0 })) ∷
    kept (drum_in (atom_places - 32) (bond_places - 7) 1 1 [] []) 264 (Err (record { no = 2; line = 0; column = 0 })) ∷
    []

-- the answer and the room that the definitions give
abbrev done : Sample → Sample
done s = record { given = s.given; room = s.room; answer = write_of s.given (length s.room); after = room_after s.given s.room }

pub samples_written : map done samples ≡ samples
unfolding first_from bad_column ended split cut text after_spaces header_text then need within begins contains first_header_of is_blank name_on opened spaced arrowed
    header_of item_of value_of run verdict_from header_line header_turn headers_verdict item_turn items_verdict joined counts_text atom_text bond_text entry_fields property_text
    items_lines molecule_lines record_lines text_by columns_for point_text symbol_text charge_code atom_of bond_of entries_from eights properties_of canon rows_of
    elem_signed in_range marks place_holds numbers_hold codes_hold changes_hold atom_holds kind_holds bond_holds all_rows masses_hold same_ends same_at against
    walk_from counts_hold tables_hold writable_tables roomy record_for text_for write_of room_after
samples_written = refl
