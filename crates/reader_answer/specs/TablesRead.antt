-- Tables of any length, and any kind: the laws of the definitions, as the code comes to them.
use Rattle.std.specs.Prelude.{ℕ, zero, suc, ◌≤◌, ◌<◌, ◌≡◌, refl, List, length, ℤ}
use Rattle.std.proofs.Common.{sym, ◌∙◌}
use Rattle.std.proofs.Math.Path.{ap}
use borrow.Author.Tests.{lt-ltb, le-ltb}
use Rattle.text.specs.Text.{Bytes}
use Rattle.rules.specs.Record.{atom_places, bond_places}
use Rattle.judge_file.specs.Place.{FileKind, molfile, sdfile}
use Rattle.reader_walk.specs.Outcome.{outcome_of}
use Rattle.reader_walk.specs.Walked.{walk_of}
use Rattle.reader_answer.specs.declared.RecordRead.{RecordRead}
use Rattle.reader_answer.specs.Read.{by_kind, answered, atoms_by, bonds_by, read_as, atoms_as, bonds_as, read_of, atoms_after, bonds_after}

-- ---- Tables without room, and with

module _ (kind : FileKind) (s : Bytes) where
  pub short_atoms : (la lb : ℕ) (r : RecordRead) → la < atom_places → r ≡ RecordRead.Refused 2 0 0 → r ≡ read_as kind la lb s
  unfolding read_as
  short_atoms la lb r h e = rw (lt-ltb la atom_places h) e

  pub short_bonds : (la lb : ℕ) (r : RecordRead) → atom_places ≤ la → lb < bond_places → r ≡ RecordRead.Refused 2 0 0 → r ≡ read_as kind la lb s
  unfolding read_as
  short_bonds la lb r h k e = rw (le-ltb la atom_places h, lt-ltb lb bond_places k) e

  pub enough : (la lb : ℕ) (r : RecordRead) → atom_places ≤ la → bond_places ≤ lb → r ≡ answered (walk_of kind s) → r ≡ read_as kind la lb s
  unfolding read_as
  enough la lb r h k e = rw (le-ltb la atom_places h, le-ltb lb bond_places k) e

  pub atoms_beside : (lb : ℕ) (t : List ℤ) → atom_places ≤ length t → lb < bond_places → t ≡ atoms_as kind lb s t
  unfolding atoms_as
  atoms_beside lb t h k = rw (le-ltb (length t) atom_places h, lt-ltb lb bond_places k)

  pub atoms_enough : (lb : ℕ) (t u : List ℤ) → atom_places ≤ length t → bond_places ≤ lb → u ≡ atoms_by t (outcome_of kind s) → u ≡ atoms_as kind lb s t
  unfolding atoms_as
  atoms_enough lb t u h k e = rw (le-ltb (length t) atom_places h, le-ltb lb bond_places k) e

  pub bonds_beside : (la : ℕ) (t : List ℤ) → la < atom_places → t ≡ bonds_as kind la s t
  unfolding bonds_as
  bonds_beside la t h = rw (lt-ltb la atom_places h)

  pub bonds_short : (la : ℕ) (t : List ℤ) → atom_places ≤ la → length t < bond_places → t ≡ bonds_as kind la s t
  unfolding bonds_as
  bonds_short la t h k = rw (le-ltb la atom_places h, lt-ltb (length t) bond_places k)

  pub bonds_enough : (la : ℕ) (t u : List ℤ) → atom_places ≤ la → bond_places ≤ length t → u ≡ bonds_by t (outcome_of kind s) → u ≡ bonds_as kind la s t
  unfolding bonds_as
  bonds_enough la t u h k e = rw (le-ltb la atom_places h, le-ltb (length t) bond_places k) e

-- ---- Kinds

module _ (kind : ℕ) (s : Bytes) where
  pub kind_mol : (la lb : ℕ) (r : RecordRead) → kind ≡ 0 → r ≡ read_as molfile la lb s → r ≡ read_of kind la lb s
  unfolding read_of
  kind_mol la lb r e h = h ∙ ap (λ (k : ℕ). read_of k la lb s) (sym e)

  pub atoms_mol : (lb : ℕ) (t u : List ℤ) → kind ≡ 0 → u ≡ atoms_as molfile lb s t → u ≡ atoms_after kind lb s t
  unfolding atoms_after
  atoms_mol lb t u e h = h ∙ ap (λ (k : ℕ). atoms_after k lb s t) (sym e)

  pub atoms_sd : (lb : ℕ) (t u : List ℤ) → kind ≡ 1 → u ≡ atoms_as sdfile lb s t → u ≡ atoms_after kind lb s t
  unfolding atoms_after
  atoms_sd lb t u e h = h ∙ ap (λ (k : ℕ). atoms_after k lb s t) (sym e)

  pub bonds_mol : (la : ℕ) (t u : List ℤ) → kind ≡ 0 → u ≡ bonds_as molfile la s t → u ≡ bonds_after kind la s t
  unfolding bonds_after
  bonds_mol la t u e h = h ∙ ap (λ (k : ℕ). bonds_after k la s t) (sym e)

  pub bonds_sd : (la : ℕ) (t u : List ℤ) → kind ≡ 1 → u ≡ bonds_as sdfile la s t → u ≡ bonds_after kind la s t
  unfolding bonds_after
  bonds_sd la t u e h = h ∙ ap (λ (k : ℕ). bonds_after k la s t) (sym e)

  pub by_none : {A : Type 0} (k : ℕ) (x : A) (f : FileKind → A) → (k ≡ 0 → ⊥) → (k ≡ 1 → ⊥) → x ≡ by_kind k x f
  by_none zero x f z o = absurd (z refl)
  by_none (suc zero) x f z o = absurd (o refl)
  by_none (suc (suc k)) x f z o = refl

  pub kind_none : (la lb : ℕ) (r : RecordRead) → (kind ≡ 0 → ⊥) → (kind ≡ 1 → ⊥) → r ≡ RecordRead.Refused 1 0 0 → r ≡ read_of kind la lb s
  unfolding read_of
  kind_none la lb r z o e = e ∙ by_none kind (RecordRead.Refused 1 0 0) (λ (k : FileKind). read_as k la lb s) z o

  pub atoms_none : (lb : ℕ) (t : List ℤ) → (kind ≡ 0 → ⊥) → (kind ≡ 1 → ⊥) → t ≡ atoms_after kind lb s t
  unfolding atoms_after
  atoms_none lb t z o = by_none kind t (λ (k : FileKind). atoms_as k lb s t) z o

  pub bonds_none : (la : ℕ) (t : List ℤ) → (kind ≡ 0 → ⊥) → (kind ≡ 1 → ⊥) → t ≡ bonds_after kind la s t
  unfolding bonds_after
  bonds_none la t z o = by_none kind t (λ (k : FileKind). bonds_as k la s t) z o
