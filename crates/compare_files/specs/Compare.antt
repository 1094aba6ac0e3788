-- What comes of two files and a lent list: all differences, or the first refusal; from that the answer, and what the list and the work tables then hold.
use Rattle.std.specs.Prelude.{Result, Ok, Err, ℕ, ◌*◌, List, [], ◌++◌, Bool, cond, ◌&&◌, leb, length, drop, ℤ}
use Rattle.text.specs.Text.{Bytes}
use Rattle.rules.specs.Record.{Raw, limit, atom_places, bond_places}
use Rattle.judge_file.specs.Place.{sdfile}
use Rattle.judge_file.specs.Verdict.{Verdict, accepted, refused, verdict}
use Rattle.reader_answer.specs.Read.{rows_in}
use Rattle.compare_rules.specs.Differences.{Difference}
use Rattle.compare_rules.specs.Files.{files_apart}
use Rattle.compare_rules.specs.Listed.{flat}
use Rattle.judge_file.specs.declared.TextRefusal.{TextRefusal}

-- ---- One test after the other

-- seven numbers a difference, in a list of k numbers
abbrev pub within : ℕ → List Difference → Verdict (List Difference)
within k ds = cond (leb (7 * length ds) k) (accepted ds) (refused 39 0 0)

-- the first file has the records xs
abbrev pub second : ℕ → List Raw → Verdict (List Raw) → Verdict (List Difference)
second k xs (accepted ys) = within k (files_apart xs ys)
second k xs (refused e line column) = refused 37 line column

abbrev pub first : ℕ → Verdict (List Raw) → Verdict (List Raw) → Verdict (List Difference)
first k (accepted xs) v = second k xs v
first k (refused e line column) v = refused 36 line column

unfoldable pub files_for : Bytes → Bytes → ℕ → Verdict (List Difference)
files_for a b k = first k (verdict sdfile limit a) (verdict sdfile limit b)

-- the four work tables: atoms and bonds of either file
pub record Work : Type 0 where
  pub old_atoms : List ℤ
  pub old_bonds : List ℤ
  pub new_atoms : List ℤ
  pub new_bonds : List ℤ

abbrev pub work : List ℤ → List ℤ → List ℤ → List ℤ → Work
work ta tb ua ub = record { old_atoms = ta; old_bonds = tb; new_atoms = ua; new_bonds = ub }

unfoldable pub roomy : Work → Bool
roomy w =
    leb atom_places (length w.old_atoms) && (leb bond_places (length w.old_bonds)
    && (leb atom_places (length w.new_atoms) && leb bond_places (length w.new_bonds)))

-- before all else the work tables
unfoldable pub compared_for : Work → Bytes → Bytes → ℕ → Verdict (List Difference)
compared_for w a b k = cond (roomy w) (files_for a b k) (refused 2 0 0)

-- ---- The answer, the list, the work tables

abbrev pub answer_by : Verdict (List Difference) → Result ℕ TextRefusal
answer_by (accepted ds) = Ok (length ds)
answer_by (refused e line column) = Err (record { no = e; line = line; column = column })

-- the differences at the front and all else as it was; after a refusal, all as it was
abbrev pub list_by : List ℤ → Verdict (List Difference) → List ℤ
list_by l (accepted ds) = flat ds ++ drop (7 * length ds) l
list_by l (refused e line column) = l

-- no row is left, and memory beyond the limit is as it was
abbrev pub emptied : Work → Work
emptied w =
    record {
      old_atoms = rows_in atom_places w.old_atoms [];
      old_bonds = rows_in bond_places w.old_bonds [];
      new_atoms = rows_in atom_places w.new_atoms [];
      new_bonds = rows_in bond_places w.new_bonds [];
    }

-- tables without room are left as they are
unfoldable pub work_after : Work → Work
work_after w = cond (roomy w) (emptied w) w
