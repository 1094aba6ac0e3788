-- Tables of any length, and any kind: the laws of the definitions, as the code comes to them.
use Rattle.std.specs.Prelude.{ℕ, ◌<◌, ◌≡◌, List, length, ℤ}
use Rattle.std.proofs.Common.{sym, ◌∙◌}
use Rattle.std.proofs.Math.Path.{ap}
use borrow.Author.Tests.{lt-ltb}
use Rattle.text.specs.Text.{Bytes}
use Rattle.rules.specs.Record.{atom_places}
use Rattle.judge_file.specs.Place.{FileKind, sdfile}
use Rattle.reader_answer.specs.declared.RecordRead.{RecordRead}
use Rattle.reader_answer.specs.Read.{read_as, atoms_as, read_of}
use Rattle.reader_answer.specs.TablesRead.{short_atoms, short_bonds, enough, atoms_beside, atoms_enough, bonds_beside, bonds_short, bonds_enough, kind_mol, atoms_mol, atoms_sd, bonds_mol, bonds_sd, kind_none, atoms_none, bonds_none}

-- ---- Tables without room, and with

module _ (kind : FileKind) (s : Bytes) where
  pub atoms_short : (lb : ℕ) (t : List ℤ) → length t < atom_places → t ≡ atoms_as kind lb s t
  unfolding atoms_as
  atoms_short lb t h = rw (lt-ltb (length t) atom_places h)

pub ruleset room_laws = (short_atoms, short_bonds, enough, atoms_short, atoms_beside, atoms_enough, bonds_beside, bonds_short, bonds_enough)

-- ---- Kinds

module _ (kind : ℕ) (s : Bytes) where
  pub kind_sd : (la lb : ℕ) (r : RecordRead) → kind ≡ 1 → r ≡ read_as sdfile la lb s → r ≡ read_of kind la lb s
  unfolding read_of
  kind_sd la lb r e h = h ∙ ap (λ (k : ℕ). read_of k la lb s) (sym e)

pub ruleset kind_laws = (kind_mol, kind_sd, atoms_mol, atoms_sd, bonds_mol, bonds_sd, kind_none, atoms_none, bonds_none)
