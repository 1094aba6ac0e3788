-- What may follow a place, where no lines are owed there, after `M  END`, and where a record begins.
use Prim.Native.Nat.{ℕ, zero, suc}
use Rattle.std.specs.Prelude.{◌≡◌}
use Rattle.std.proofs.Common.{sym}
use mathlib.Core.List.{List, [], ◌∷◌, ◌++◌, append_assoc, append-nil}
use Rattle.text.specs.Text.{Line}
use Rattle.rules.specs.Forms.{FirstHeaderLine, Counts, Atom, Bond}
use Rattle.rules.specs.Record.{Headers, Molecule, Raw, NoPairTwice}
use Rattle.rules.specs.Record.{Atoms, Bonds, Parts1to5}
use Rattle.judge_file.specs.Place.{FileKind, molfile, sdfile, to_atoms, to_bonds, after_end}
use Rattle.judge_file.specs.Place.{first, second, third, counts, atoms, bonds, properties}
use Rattle.judge_file.specs.From.{FromEnd, FromProperties, FromBonds, FromAtoms, FromSecond, FromParts, From}

-- one more at the end of what was read
pub snoc : {A : Type 0} (xs : List A) (a : A) (ys : List A) → xs ++ (a ∷ ys) ≡ (xs ++ (a ∷ [])) ++ ys
snoc xs a ys = sym (append_assoc xs (a ∷ []) ys)

module _ (kind : FileKind) (limit : ℕ) where
  -- ---- Lines owed, or none

  pub from_bonds : (hs : Headers) (c : Counts) (xs : List Atom) (k : ℕ) (bs : List Bond) (t : List Line) (rs : List Raw) →
      FromBonds kind limit hs c xs k bs t rs → From kind limit (to_bonds hs c xs k bs) t rs
  unfolding to_bonds
  from_bonds hs c xs zero bs t rs f = go f.here f.after
    where
      go : {ys : List Bond} {u : List Line} → Bonds c.atoms zero t ys u → FromProperties kind limit hs c xs (bs ++ ys) [] u rs →
          FromProperties kind limit hs c xs bs [] t rs
      go Bonds.none g = rw append-nil at g
  from_bonds hs c xs (suc k) bs t rs f = f

  pub bonds_from_lem : (hs : Headers) (c : Counts) (xs : List Atom) (k : ℕ) (bs : List Bond) (t : List Line) (rs : List Raw) →
      NoPairTwice bs → From kind limit (to_bonds hs c xs k bs) t rs → FromBonds kind limit hs c xs k bs t rs
  unfolding to_bonds
  bonds_from_lem hs c xs zero bs t rs n f = record { ys = []; u = t; here = Bonds.none; once = rw append-nil n; after = rw append-nil f }
  bonds_from_lem hs c xs (suc k) bs t rs n f = f

  pub from_atoms : (hs : Headers) (c : Counts) (k : ℕ) (xs : List Atom) (t : List Line) (rs : List Raw) →
      FromAtoms kind limit hs c k xs t rs → From kind limit (to_atoms hs c k xs) t rs
  unfolding to_atoms
  from_atoms hs c zero xs t rs f = go f.here f.after
    where
      go : {ys : List Atom} {u : List Line} → Atoms c.atoms zero t ys u → FromBonds kind limit hs c (xs ++ ys) c.bonds [] u rs →
          From kind limit (to_bonds hs c xs c.bonds []) t rs
      go Atoms.none g = from_bonds hs c xs c.bonds [] t rs (rw append-nil at g)
  from_atoms hs c (suc k) xs t rs f = f

  pub atoms_from_lem : (hs : Headers) (c : Counts) (k : ℕ) (xs : List Atom) (t : List Line) (rs : List Raw) →
      From kind limit (to_atoms hs c k xs) t rs → FromAtoms kind limit hs c k xs t rs
  unfolding to_atoms NoPairTwice
  atoms_from_lem hs c zero xs t rs f =
      record { ys = []; u = t; here = Atoms.none; after = rw append-nil (bonds_from_lem hs c xs c.bonds [] t rs tt f) }
  atoms_from_lem hs c (suc k) xs t rs f = f

  -- ---- After `M  END`

  pub from_end : (m : Molecule) (t : List Line) (rs : List Raw) → FromEnd kind limit m t rs → From kind limit (after_end kind m) t rs
  from_end m t rs f = go kind f
    where
      go : (k : FileKind) → FromEnd k limit m t rs → From k limit (after_end k m) t rs
      go molfile f = f
      go sdfile f = f

  pub end_from : (m : Molecule) (t : List Line) (rs : List Raw) → From kind limit (after_end kind m) t rs → FromEnd kind limit m t rs
  end_from m t rs f = go kind f
    where
      go : (k : FileKind) → From k limit (after_end k m) t rs → FromEnd k limit m t rs
      go molfile f = f
      go sdfile f = f

  -- ---- The start of a record

  pub parts_from : (l : Line) (t : List Line) (rs : List Raw) → FirstHeaderLine l → FromSecond kind limit l t rs → FromParts kind limit (l ∷ t) rs
  parts_from l [] rs h f = absurd f
  parts_from l (h₂ ∷ []) rs h f = absurd f.1
  parts_from l (h₂ ∷ (h₃ ∷ [])) rs h f = absurd f.1.1
  parts_from l (h₂ ∷ (h₃ ∷ (k ∷ t))) rs h f =
      let a = f.1.1.2 in
      let b = a.after in
      let p = b.after in
      record {
        m = record {
          headers = record { first = l; second = h₂; third = h₃ };
          counts = f.1.1.0;
          atoms = a.ys;
          bonds = b.ys;
          properties = p.qs;
        };
        u = p.u;
        here = Parts1to5.parts h f.0 f.1.0 f.1.1.1 a.here b.here b.once p.here p.once;
        after = p.after;
      }

  abbrev pub FromStart : List Line → List Raw → Type 0
  FromStart [] rs = ⊥
  FromStart (l ∷ t) rs = FirstHeaderLine l × FromSecond kind limit l t rs

  pub from_parts : {t : List Line} {m : Molecule} {u : List Line} (rs : List Raw) → Parts1to5 limit t m u → FromEnd kind limit m u rs → FromStart t rs
  from_parts rs (Parts1to5.parts {c = c} {u = u} {v = v} {r = r} {xs = xs} {bs = bs} {ps = ps} h₁ h₂ h₃ cl a b pairs p once) f = (
    h₁,
    (
      h₂,
      (
        h₃,
        (
          c,
          cl,
          record {
            ys = xs;
            u = u;
            here = a;
            after = record { ys = bs; u = v; here = b; once = pairs; after = record { qs = ps; u = r; here = p; once = once; after = f } };
          },
        ),
      ),
    ),
  )
