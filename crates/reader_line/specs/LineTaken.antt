-- What is taken from a line: the notes, the atom's row, and what the walk does next.
use Rattle.std.specs.Prelude.{Result, Ok, Err, ℕ, ◌+◌, ◌*◌, ◌≤◌, ◌<◌, ◌≡◌, List, length, ℤ}
use Rattle.std.proofs.lemmas.List.Edits.{sets}
use Rattle.text.specs.Text.{Line}
use Rattle.rules.specs.Forms as R
use Rattle.rules.specs.Record.{limit, atom_places, bond_places}
use Rattle.judge_line.specs.Got.{Got, got, bad}
use Rattle.line_counts_bonds.specs.Answer.{bond_is}
use Rattle.line_counts_bonds.specs.declared.Counts.{Counts}
use Rattle.line_counts_bonds.specs.declared.Bond.{Bond}
use Rattle.line_property.specs.Listed.{places}
use Rattle.reader_tables.specs.Row.{raw_row, SmallAtom, SmallBond}
use Rattle.reader_state.specs.declared.Reader.{Reader}
use Rattle.reader_state.specs.LineRead.{Went, on, headed, atom, bond, ended, title, value, blank, done, went_of, Kept, Sane}
use Rattle.reader_line.specs.declared.Notes.{Notes}
use Rattle.judge_line.specs.declared.Refusal.{Refusal}
use Rattle.reader_line.specs.declared.Taken.{Taken}

-- a bond and counts as the code has them
abbrev pub bond_back : R.Bond → Bond
bond_back b = record { first = b.first; second = b.second; order = b.type; stereo = b.stereo; topology = b.topology; centre = b.centre }

abbrev pub counts_back : R.Counts → Counts
counts_back c = record { atoms = c.atoms; bonds = c.bonds; chiral = c.chiral }

-- ---- The notes before the first line

abbrev pub no_notes : Notes
no_notes = record { atoms = 0; bonds = 0; header_end = 0; items_start = 0 }

-- ---- The notes after a line, where the next line starts at `next`

abbrev pub headed_at : Notes → ℕ → Notes
headed_at m next = record { atoms = m.atoms; bonds = m.bonds; header_end = next; items_start = m.items_start }

abbrev pub ended_at : Notes → ℕ → Notes
ended_at m next = record { atoms = m.atoms; bonds = m.bonds; header_end = m.header_end; items_start = next }

abbrev pub atom_more : Notes → Notes
atom_more m = record { atoms = m.atoms + 1; bonds = m.bonds; header_end = m.header_end; items_start = m.items_start }

abbrev pub bond_more : Notes → Notes
bond_more m = record { atoms = m.atoms; bonds = m.bonds + 1; header_end = m.header_end; items_start = m.items_start }

-- ---- By what the line was

abbrev pub taken_by : Notes → ℕ → Got Went → Result Taken Refusal
taken_by m next (got (on r)) = Ok (Taken.Next r m)
taken_by m next (got (headed r)) = Ok (Taken.Next r (headed_at m next))
taken_by m next (got (atom r a)) = Ok (Taken.Next r (atom_more m))
taken_by m next (got (bond r b)) = Ok (Taken.Bond r (bond_back b))
taken_by m next (got (ended r)) = Ok (Taken.Next r (ended_at m next))
taken_by m next (got (title r name)) = Ok (Taken.Next r m)
taken_by m next (got (value r)) = Ok (Taken.Next r m)
taken_by m next (got (blank r)) = Ok (Taken.Next r m)
taken_by m next (got done) = Ok Taken.Done
taken_by m next (bad e column) = Err (record { no = e; column = column })

-- the atom's row is stored
abbrev pub atoms_by : Notes → Got Went → List ℤ → List ℤ
atoms_by m (got (on r)) t = t
atoms_by m (got (headed r)) t = t
atoms_by m (got (atom r a)) t = sets t (16 * m.atoms) (raw_row a)
atoms_by m (got (bond r b)) t = t
atoms_by m (got (ended r)) t = t
atoms_by m (got (title r name)) t = t
atoms_by m (got (value r)) t = t
atoms_by m (got (blank r)) t = t
atoms_by m (got done) t = t
atoms_by m (bad e column) t = t

-- what taking a line asks: an atom's row fits the table
pub record Ready (r : Reader) (m : Notes) (listed : List ℕ) (t : List ℤ) (l : Line) : Type 0 where
  pub sane : Sane r
  pub room : atom_places ≤ length t
  pub size : length listed ≡ 3 * places
  pub fits : (r' : Reader) (a : R.Atom) → went_of r listed l ≡ got (atom r' a) → (m.atoms < limit) × SmallAtom a

-- what taking a line answers, and what it leaves in the tables
pub record Took (r : Reader) (m : Notes) (next : ℕ) (listed : List ℕ) (t : List ℤ) (l : Line) (x : Result Taken Refusal) (listed' : List ℕ) (t' : List ℤ) : Type 0 where
  pub answer : x ≡ taken_by m next (went_of r listed l)
  pub rows : t' ≡ atoms_by m (went_of r listed l) t
  pub kept : Kept r listed l listed'
  pub size : length listed' ≡ 3 * places

-- what keeping a bond asks: its row and its key fit the tables
pub record Keeping (m : Notes) (b : Bond) (t : List ℤ) (keys : List ℕ) : Type 0 where
  pub few : m.bonds < limit
  pub fits : SmallBond (bond_is b)
  pub room : bond_places ≤ length t
  pub key_room : length keys ≡ limit
