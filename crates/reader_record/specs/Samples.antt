-- What is read of samples, and what is refused, in one table, checked by one computation. The first is the record of thirteen lines.
use Rattle.std.specs.Prelude.{ℕ, ◌+◌, ◌-◌, ◌≡◌, refl, List, [], ◌∷◌, ◌++◌, map, length, replicate, ℤ, pos, negsuc}
use Rattle.text.specs.Text.{Bytes, bytes}
use Rattle.text.specs.Columns.{columns_for}
use Rattle.text.specs.Find.{first_from, bad_column, ink_column, same_bytes, line_to, line_at, is_blank}
use Rattle.text.specs.Cut.{ended, split, cut}
use Rattle.field_numbers.specs.Number.{decimal_after}
use Rattle.field_numbers.specs.Read.{all_digits, after_spaces, before_spaces, digits_read, after_blank, integer_in, ranged, number_in, signed_ranged, signed_in}
use Rattle.field_coordinates.specs.Read.{point_read, before_point, inked, coordinate_in}
use Rattle.field_symbols.specs.Read.{among, symbol_in}
use Rattle.rules.specs.Record.{listed, atom_places, bond_places}
use Rattle.rules.specs.Meaning as M
use Rattle.rules.specs.Samples.{atom, bond}
use Rattle.judge_pairs.specs.Taken.{pair_taken}
use Rattle.judge_line.specs.Got.{then, need}
use Rattle.judge_line.specs.Field.{number_at, signed_at, elem, listed_at, elem_signed, signed_listed_at, coordinate_at, symbol_at, space_at, spaces_from, within}
use Rattle.judge_line.specs.Judge.{begins, contains, first_header_of, counts_of, atom_of, bond_of, entry_number_at, entries_of, list_of, property_of, name_on, opened}
use Rattle.judge_line.specs.Judge.{spaced, arrowed, header_of, item_of, value_of}
use Rattle.reader_tables.specs.Row.{flat}
use Rattle.judge_file.specs.Place.{to_bonds, to_atoms, line_of, turn_of}
use Rattle.judge_file.specs.Verdict.{run, verdict}
use Rattle.judge_file.specs.One.{one_from, one_record}
use Rattle.judge_file.specs.WalkText.{after_lines}
use Rattle.judge_file.specs.Samples.{lines, drum_lines, drum}
use Rattle.reader_walk.specs.Outcome.{outcome_of}
use Rattle.reader_walk.specs.Walked.{walk_of}
use Rattle.reader_answer.specs.declared.RecordRead.{RecordRead}
use Rattle.reader_answer.specs.Read.{rows_in, answered, atoms_by, bonds_by, read_as, atoms_as, bonds_as, read_of, atoms_after, bonds_after}

-- tables of so many places, all 7, are lent; the answer, and what the tables then hold
pub record Sample : Type 0 where
  pub kind : ℕ
  pub text : Bytes
  pub places : ℕ
  pub bond_places_lem : ℕ
  pub answer : RecordRead
  pub atoms : List ℤ
  pub bonds : List ℤ

abbrev sevens : ℕ → List ℤ
sevens k = replicate k (pos 7)

-- two places more than the most atoms take, and one more than the most bonds
abbrev good : ℕ → Bytes → RecordRead → Sample
good kind text answer =
    record {
      kind = kind;
      text = text;
      places = atom_places + 2;
      bond_places_lem = bond_places + 1;
      answer = answer;
      atoms = atom (pos 0) (pos 0) 6 (pos 0) ++ (atom (pos 12500) (negsuc 8249) 8 (negsuc 0) ++ (replicate (atom_places - 32) (pos 0) ++ sevens 2));
      bonds = bond 1 2 ++ (replicate (bond_places - 6) (pos 0) ++ sevens 1);
    }

abbrev bad : ℕ → Bytes → ℕ → ℕ → ℕ → Sample
bad kind text e i column =
    record {
      kind = kind;
      text = text;
      places = atom_places + 2;
      bond_places_lem = bond_places + 1;
      answer = RecordRead.Refused e i column;
      atoms = replicate atom_places (pos 0) ++ sevens 2;
      bonds = replicate bond_places (pos 0) ++ sevens 1;
    }

abbrev untouched : ℕ → ℕ → ℕ → ℕ → Sample
untouched kind places bond_places_lem e =
    record {
      kind = kind;
      text = [];
      places = places;
      bond_places_lem = bond_places_lem;
      answer = RecordRead.Refused e 0 0;
      atoms = sevens places;
      bonds = sevens bond_places_lem;
    }

abbrev lot : Bytes
lot = drum "00417" ("" ∷ "$$$$" ∷ [])

abbrev pub samples : List Sample
samples =
    good 1 lot (RecordRead.Read 2 1 0 265 13 17 244 260) ∷
    -- whatever follows
    good 1 (lot ++ bytes "x") (RecordRead.Read 2 1 0 265 13 17 244 260) ∷
    -- no items, and a molfile: both ends right after `M  END`
    good 1 (lines (drum_lines ++ ("$$$$" ∷ []))) (RecordRead.Read 2 1 0 249 10 17 244 244) ∷
    good 0 (lines drum_lines) (RecordRead.Read 2 1 0 244 9 17 244 244) ∷
    bad 0 lot 18 10 1 ∷
    bad 0 (lines drum_lines ++ bytes "x") 19 10 1 ∷
    bad 1 (drum "00417" ("$$$$" ∷ [])) 17 12 1 ∷
    bad 1 [] 19 1 1 ∷
    untouched 2 atom_places bond_places 1 ∷
    untouched 1 (atom_places - 1) bond_places 2 ∷
    untouched 0 atom_places (bond_places - 1) 2 ∷
    untouched 2 (atom_places - 1) (bond_places - 1) 1 ∷
    []

-- the answer and the tables that the definitions give
abbrev done : Sample → Sample
done s =
    record {
      kind = s.kind;
      text = s.text;
      places = s.places;
      bond_places_lem = s.bond_places_lem;
      answer = read_of s.kind s.places s.bond_places_lem s.text;
      atoms = atoms_after s.kind s.bond_places_lem s.text (sevens s.places);
      bonds = bonds_after s.kind s.places s.text (sevens s.bond_places_lem);
    }

pub samples_read : map done samples ≡ samples
unfolding columns_for first_from bad_column ink_column same_bytes line_to line_at ended split cut decimal_after all_digits after_spaces before_spaces digits_read after_blank integer_in
    ranged number_in signed_ranged signed_in point_read before_point inked coordinate_in among symbol_in listed M.among M.number_in M.atoms_from M.meaning pair_taken then
    need number_at signed_at elem listed_at elem_signed signed_listed_at coordinate_at symbol_at space_at spaces_from within begins contains first_header_of counts_of atom_of
    bond_of entry_number_at entries_of list_of property_of is_blank name_on opened spaced arrowed header_of item_of value_of flat to_bonds to_atoms line_of turn_of run verdict
    one_from one_record after_lines outcome_of walk_of rows_in answered atoms_by bonds_by read_as atoms_as bonds_as read_of atoms_after bonds_after
samples_read = refl
