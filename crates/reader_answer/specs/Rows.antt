-- A record walked, and its rows given their meaning: the tables begin with the rows of its reading. Once the rest is cleared, they are as they are promised.
use Rattle.std.specs.Prelude.{ℕ, ◌-◌, ◌*◌, ◌≤◌, ◌<◌, ◌≡◌, refl, List, [], ◌++◌, Bool, length, drop, replicate, ℤ, pos}
use Rattle.std.proofs.Common.{arith, sym, ap, ◌∙◌, take_at}
use Rattle.std.proofs.Math.Path.{subst}
use Rattle.text.specs.Text.{Bytes, Line}
use Rattle.rules.specs.Record.{Molecule, Raw, limit, Parts1to5, Molfile, Record, atom_places, bond_places}
use Rattle.rules.specs.Meaning.{meaning}
use Rattle.rules.specs.PartLaws.{many_atoms, many_bonds}
use Rattle.line_counts_bonds.specs.declared.Counts.{Counts}
use Rattle.reader_tables.specs.Row.{flat, Holds}
use Rattle.reader_tables.specs.Held.{bond_rows_flat, length_bond_rows}
use Rattle.reader_tables.specs.Filled.{cleared}
use Rattle.reader_tables.specs.Mean.{meant, Kept}
use Rattle.reader_tables.specs.Meant.{shows_kept, meant_holds, meant_length, meant_past, length_meant_rows}
use Rattle.reader_tables.specs.Cleared.{cleared_filled, length_filled, filled_past}
use Rattle.judge_file.specs.Place.{FileKind, molfile, sdfile}
use Rattle.reader_end.specs.declared.Walked.{Walked}
use Rattle.reader_walk.specs.Outcome.{Outcome, whole, refused, outcome_of}
use Rattle.reader_line.specs.LineTaken.{counts_back}
use Rattle.reader_walk.specs.Stands.{kind_of}
use Rattle.reader_walk.specs.Asked.{rows_asked}
use Rattle.reader_walk.specs.Walked.{walked_by, walk_of, HeldBy, Held, Beside, Left}
use Rattle.reader_answer.specs.declared.RecordRead.{RecordRead}
use Rattle.reader_answer.specs.Promise.{Begins, Roomy}
use Rattle.reader_answer.specs.Told.{outcome_begins}
use Rattle.reader_answer.specs.Read.{zeroed, rows_in, answered, atom_rows, bond_rows_of, atoms_by, bonds_by, RowsLeft, atoms_read, bonds_read, Clearing}

-- ---- What a molecule's counts say

pub record Sized (m : Molecule) : Type 0 where
  pub few_atoms : m.counts.atoms ≤ limit
  pub few_bonds : m.counts.bonds ≤ limit
  pub atoms : length m.atoms ≡ m.counts.atoms
  pub bonds : length m.bonds ≡ m.counts.bonds

sized : {t r : List Line} {m : Molecule} → Parts1to5 limit t m r → Sized m
sized (Parts1to5.parts h₁ h₂ h₃ c a b p q o) = record { few_atoms = c.atoms.high; few_bonds = c.bonds.high; atoms = many_atoms a; bonds = many_bonds b }

mol_sized : {t : List Line} {x : Raw} → Molfile limit t x → Sized x.molecule
mol_sized (Molfile.molfile p) = sized p

record_sized : {t r : List Line} {x : Raw} → Record limit t x r → Sized x.molecule
record_sized (Record.record_of p i) = sized p

pub begins_sized : (kind : FileKind) (s : Bytes) (x : Raw) → Begins kind s x → Sized x.molecule
begins_sized molfile s x g = mol_sized g.2
begins_sized sdfile s x g = record_sized g.4

-- ---- What the walk answers, as a reading tells it

pub answered_whole : (w : Walked) (c : Counts) (len k h a b : ℕ) → w ≡ Walked.Whole c len k h a b → RecordRead.Read c.atoms c.bonds c.chiral len k h a b ≡ answered w
unfolding answered
answered_whole w c len k h a b q = ap answered (sym q)

pub answered_refused : (w : Walked) (e i column : ℕ) → w ≡ Walked.Refused e i column → RecordRead.Refused e i column ≡ answered w
unfolding answered
answered_refused w e i column q = ap answered (sym q)

pub ruleset told_laws = (answered_whole, answered_refused)

-- ---- After the walk

pub record Found (kind : FileKind) (s : Bytes) (c : Counts) : Type 0 where
  pub x : Raw
  pub k : ℕ
  pub is : outcome_of kind s ≡ whole x k
  pub counts : c ≡ counts_back x.molecule.counts

found : (kind : FileKind) (s : Bytes) (c : Counts) (len k h a b : ℕ) → walk_of kind s ≡ Walked.Whole c len k h a b → Found kind s c
unfolding walk_of
found kind s c len k h a b e = go (outcome_of kind s) refl e
  where
    go : (o : Outcome) → outcome_of kind s ≡ o → walked_by kind s o ≡ Walked.Whole c len k h a b → Found kind s c
    go (whole x j) is q = record { x = x; k = j; is = is; counts = cc }
    go (refused e i column) is q = absurd (let z : ◌≡◌ {A = ℕ} 0 1 = cc in omega arith)

-- a refused record has no rows
refused_rows : (kind : FileKind) (s : Bytes) (e i column : ℕ) → walk_of kind s ≡ Walked.Refused e i column → (atom_rows (outcome_of kind s) ≡ []) × (bond_rows_of (outcome_of kind s) ≡ [])
unfolding walk_of
refused_rows kind s e i column h = go (outcome_of kind s) h
  where
    go : (o : Outcome) → walked_by kind s o ≡ Walked.Refused e i column → (atom_rows o ≡ []) × (bond_rows_of o ≡ [])
    go (whole x j) q = absurd (let z : ◌≡◌ {A = ℕ} 0 1 = cc in omega arith)
    go (refused e i column) q = (refl, refl)

module _ (sd : Bool) (s : Bytes) (ta₀ tb₀ ta tb : List ℤ) (t : List ℕ) (w : Walked) (ew : w ≡ walk_of (kind_of sd) s)
    (left : Left ta₀ ta tb₀ tb t (outcome_of (kind_of sd) s)) where
  module _ (c : Counts) (len k h a b : ℕ) (q : w ≡ Walked.Whole c len k h a b) where
    it : Found (kind_of sd) s c
    it = found (kind_of sd) s c len k h a b (sym ew ∙ q)

    size : Sized it.x.molecule
    size = begins_sized (kind_of sd) s it.x (outcome_begins (kind_of sd) s it.x it.k it.is)

    held : Held ta tb t it.x.molecule
    held = subst (HeldBy ta tb t) it.is left.held

    n_is : c.atoms ≡ it.x.molecule.counts.atoms
    n_is = ap (λ (d : Counts). d.atoms) it.counts

    pub walked_few : c.atoms ≤ limit
    walked_few = omega (arith, size.few_atoms, n_is)

    pub walked_room : 16 * c.atoms ≤ length ta
    walked_room = omega (arith, size.few_atoms, n_is, left.atoms.room, left.atoms.size)

    pub walked_kept : Kept c.atoms t
    walked_kept = rw n_is (shows_kept it.x.molecule.counts.atoms t it.x.molecule.properties held.listed.shows held.listed.proper)

    module _ (u : List ℤ) (e : u ≡ meant c.atoms ta t) where
      is_meant : u ≡ meant it.x.molecule.counts.atoms ta t
      is_meant = e ∙ ap (λ (n : ℕ). meant n ta t) n_is

      beside : Beside atom_places ta₀ (meant it.x.molecule.counts.atoms ta t)
      beside =
          let n = it.x.molecule.counts.atoms in
          record {
            room = left.atoms.room;
            size = meant_length n ta t ∙ left.atoms.size;
            past = meant_past n ta t atom_places (omega (arith, size.few_atoms)) ∙ left.atoms.past;
          }

      means : Holds (meant it.x.molecule.counts.atoms ta t) (flat (meaning it.x).atoms)
      unfolding meaning
      means =
          let m = it.x.molecule in
          meant_holds m.counts.atoms t m held.listed.shows held.listed.proper ta m.atoms size.atoms held.atom_rows_lem

      joins : Holds tb (flat (meaning it.x).bonds)
      unfolding meaning
      joins = subst (Holds tb) (sym (bond_rows_flat it.x.molecule.bonds)) held.bond_rows_lem

      pub whole_rows : RowsLeft ta₀ u tb₀ tb (outcome_of (kind_of sd) s)
      whole_rows =
          record {
            atoms = subst (Beside atom_places ta₀) (sym is_meant) beside;
            bonds = left.bonds;
            atom_rows_lem = subst (λ (z : List ℤ). Holds z (atom_rows (outcome_of (kind_of sd) s))) (sym is_meant)
                (subst (λ (o : Outcome). Holds (meant it.x.molecule.counts.atoms ta t) (atom_rows o)) (sym it.is) means);
            bond_rows_lem = subst (λ (o : Outcome). Holds tb (bond_rows_of o)) (sym it.is) joins;
          }

  module _ (e i column : ℕ) (q : w ≡ Walked.Refused e i column) where
    pub refused_left : RowsLeft ta₀ ta tb₀ tb (outcome_of (kind_of sd) s)
    refused_left =
        let none = refused_rows (kind_of sd) s e i column (sym ew ∙ q) in
        record {
          atoms = left.atoms;
          bonds = left.bonds;
          atom_rows_lem = subst (Holds ta) (sym none.0) refl;
          bond_rows_lem = subst (Holds tb) (sym none.1) refl;
        }

-- what the walk answers is told, and how many rows were asked
module _ (sd : Bool) (s : Bytes) where
  pub told_answer : (w : Walked) (r : RecordRead) → w ≡ walk_of (kind_of sd) s → r ≡ answered w → r ≡ answered (walk_of (kind_of sd) s)
  told_answer w r e h = h ∙ ap answered e

  pub told_asked : (q n : ℕ) → q ≡ rows_asked (kind_of sd) s → n ≡ q → n ≡ rows_asked (kind_of sd) s
  told_asked q n e h = h ∙ e

pub ruleset walked_laws = (walked_few, walked_room, walked_kept, whole_rows, refused_left, told_answer, told_asked)

-- ---- Tables without room, and with

-- a reading that clears nothing: tables without room are as they were; with room they begin with the rows of the record, and past the limit they are as they were
pub record RowsPromise (kind : FileKind) (s : Bytes) (ta tb ta' tb' : List ℤ) : Type 0 where
  pub no_room : ¬ Roomy ta tb → (ta' ≡ ta) × (tb' ≡ tb)
  pub rows : Roomy ta tb → RowsLeft ta ta' tb tb' (outcome_of kind s)

module _ (kind : FileKind) (s : Bytes) (ta tb : List ℤ) where
  pub rows_short_atoms : length ta < atom_places → RowsPromise kind s ta tb ta tb
  rows_short_atoms h = record { no_room = λ n. (refl, refl); rows = λ y. absurd (omega (arith, y.atoms)) }

  pub rows_short_bonds : length tb < bond_places → RowsPromise kind s ta tb ta tb
  rows_short_bonds h = record { no_room = λ n. (refl, refl); rows = λ y. absurd (omega (arith, y.bonds)) }

  pub rows_enough : (ta' tb' : List ℤ) → atom_places ≤ length ta → bond_places ≤ length tb → RowsLeft ta ta' tb tb' (outcome_of kind s) → RowsPromise kind s ta tb ta' tb'
  rows_enough ta' tb' h k left = record { no_room = λ n. absurd (n (record { atoms = h; bonds = k })); rows = λ y. left }

pub ruleset rows_laws = (rows_short_atoms, rows_short_bonds, rows_enough)

-- ---- The rest cleared

pub zeroed_is : (t u : List ℤ) (i k : ℕ) → u ≡ cleared t i k → u ≡ zeroed t i k
unfolding zeroed
zeroed_is t u i k e = e

zeroed_rows : (cap k : ℕ) (t u vs : List ℤ) → Beside cap t u → Holds u vs → length vs ≡ k → zeroed u k cap ≡ rows_in cap t vs
unfolding zeroed rows_in
zeroed_rows cap k t u vs b h e = ap (λ (i : ℕ). cleared u i cap) (sym e) ∙ cleared_filled cap t u b.past vs h

-- no row is left
pub rows_emptied : (cap : ℕ) (t u v : List ℤ) → Beside cap t u → v ≡ zeroed u 0 cap → v ≡ rows_in cap t []
rows_emptied cap t u v b e = e ∙ zeroed_rows cap 0 t u [] b refl refl

-- an answer that is within the limit, and tells how many rows there are
record Counted (o : Outcome) (r : RecordRead) : Type 0 where
  few_atoms : atoms_read r ≤ limit
  few_bonds : bonds_read r ≤ limit
  atoms : length (atom_rows o) ≡ 16 * atoms_read r
  bonds : length (bond_rows_of o) ≡ 6 * bonds_read r

counted : (kind : FileKind) (s : Bytes) (o : Outcome) → outcome_of kind s ≡ o → Counted o (answered (walked_by kind s o))
unfolding answered meaning
counted kind s (whole x k) e =
    let m = x.molecule in
    let z = begins_sized kind s x (outcome_begins kind s x k e) in
    record {
      few_atoms = z.few_atoms;
      few_bonds = z.few_bonds;
      atoms = length_meant_rows m 1 m.atoms ∙ ap (λ (j : ℕ). 16 * j) z.atoms;
      bonds = ap length (bond_rows_flat m.bonds) ∙ length_bond_rows m.bonds ∙ ap (λ (j : ℕ). 6 * j) z.bonds;
    }
counted kind s (refused e i column) h = record { few_atoms = omega arith; few_bonds = omega arith; atoms = refl; bonds = refl }

module _ (kind : FileKind) (s : Bytes) (ta₀ tb₀ ta tb : List ℤ) (r : RecordRead) (er : r ≡ answered (walk_of kind s)) (left : RowsLeft ta₀ ta tb₀ tb (outcome_of kind s)) where
  tells : Counted (outcome_of kind s) r
  unfolding walk_of
  tells = subst (Counted (outcome_of kind s)) (sym er) (counted kind s (outcome_of kind s) refl)

  pub rows_clearing : Clearing r ta tb
  rows_clearing =
      record {
        few_atoms = tells.few_atoms;
        few_bonds = tells.few_bonds;
        atom_room = omega (arith, left.atoms.room, left.atoms.size);
        bond_room = omega (arith, left.bonds.room, left.bonds.size);
      }

  pub rows_atoms : (u : List ℤ) → u ≡ zeroed ta (16 * atoms_read r) atom_places → u ≡ atoms_by ta₀ (outcome_of kind s)
  unfolding atoms_by
  rows_atoms u e = e ∙ zeroed_rows atom_places (16 * atoms_read r) ta₀ ta (atom_rows (outcome_of kind s)) left.atoms left.atom_rows_lem tells.atoms

  pub rows_bonds : (u : List ℤ) → u ≡ zeroed tb (6 * bonds_read r) bond_places → u ≡ bonds_by tb₀ (outcome_of kind s)
  unfolding bonds_by
  rows_bonds u e = e ∙ zeroed_rows bond_places (6 * bonds_read r) tb₀ tb (bond_rows_of (outcome_of kind s)) left.bonds left.bond_rows_lem tells.bonds

pub ruleset cleared_laws = (rows_clearing, rows_atoms, rows_bonds)

-- cleared tables begin with the rows too
filled_beside : (cap : ℕ) (t vs : List ℤ) → cap ≤ length t → length vs ≤ cap → Beside cap t (rows_in cap t vs)
unfolding rows_in
filled_beside cap t vs h k = record { room = h; size = length_filled cap t vs h k; past = filled_past cap t vs k }

filled_holds : (cap : ℕ) (t vs : List ℤ) → Holds (rows_in cap t vs) vs
unfolding rows_in
filled_holds cap t vs = take_at vs (replicate (cap - length vs) (pos 0) ++ drop cap t) (length vs) refl

pub cleared_left : (kind : FileKind) (s : Bytes) (ta tb : List ℤ) → Roomy ta tb → RowsLeft ta (atoms_by ta (outcome_of kind s)) tb (bonds_by tb (outcome_of kind s)) (outcome_of kind s)
unfolding atoms_by bonds_by
cleared_left kind s ta tb y =
    let o = outcome_of kind s in
    let c = counted kind s o refl in
    record {
      atoms = filled_beside atom_places ta (atom_rows o) y.atoms (omega (arith, c.atoms, c.few_atoms));
      bonds = filled_beside bond_places tb (bond_rows_of o) y.bonds (omega (arith, c.bonds, c.few_bonds));
      atom_rows_lem = filled_holds atom_places ta (atom_rows o);
      bond_rows_lem = filled_holds bond_places tb (bond_rows_of o);
    }

module _ (r : RecordRead) (ta tb : List ℤ) (g : Clearing r ta tb) where
  pub clearing_atom_room : atom_places ≤ length ta
  clearing_atom_room = g.atom_room

  pub clearing_bond_room : bond_places ≤ length tb
  clearing_bond_room = g.bond_room

  module _ (n m chiral len k h a b : ℕ) (q : r ≡ RecordRead.Read n m chiral len k h a b) where
    pub clearing_atoms : n ≤ limit
    clearing_atoms = omega (arith, g.few_atoms, ap (λ (z : RecordRead). atoms_read z) q)

    pub clearing_bonds : m ≤ limit
    clearing_bonds = omega (arith, g.few_bonds, ap (λ (z : RecordRead). bonds_read z) q)

module _ (r : RecordRead) (t u : List ℤ) where
  module _ (n m chiral len k h a b : ℕ) (q : r ≡ RecordRead.Read n m chiral len k h a b) where
    pub read_atoms : u ≡ zeroed t (16 * n) atom_places → u ≡ zeroed t (16 * atoms_read r) atom_places
    read_atoms e = e ∙ ap (λ (z : RecordRead). zeroed t (16 * atoms_read z) atom_places) (sym q)

    pub read_bonds : u ≡ zeroed t (6 * m) bond_places → u ≡ zeroed t (6 * bonds_read r) bond_places
    read_bonds e = e ∙ ap (λ (z : RecordRead). zeroed t (6 * bonds_read z) bond_places) (sym q)

  module _ (e i column : ℕ) (q : r ≡ RecordRead.Refused e i column) where
    pub none_atoms : u ≡ zeroed t (16 * 0) atom_places → u ≡ zeroed t (16 * atoms_read r) atom_places
    none_atoms e = e ∙ ap (λ (z : RecordRead). zeroed t (16 * atoms_read z) atom_places) (sym q)

    pub none_bonds : u ≡ zeroed t (6 * 0) bond_places → u ≡ zeroed t (6 * bonds_read r) bond_places
    none_bonds e = e ∙ ap (λ (z : RecordRead). zeroed t (6 * bonds_read z) bond_places) (sym q)

pub ruleset clearing_laws = (clearing_atom_room, clearing_bond_room, clearing_atoms, clearing_bonds, read_atoms, read_bonds, none_atoms, none_bonds)
