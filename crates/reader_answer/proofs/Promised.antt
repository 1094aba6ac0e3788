-- The definitions keep the promise, and nothing else does.
use Prim.Native.Nat.{ℕ, zero, suc, ◌≤◌}
use Rattle.std.proofs.Common.{arith, sym, ap, ◌∙◌, subst}
use Rattle.std.specs.Prelude.{◌≡◌, List, [], length, ℤ}
use Rattle.std.proofs.Math.Path.{refl}
use Rattle.text.specs.Text.{Bytes}
use Rattle.judge_file.specs.Place.{FileKind, molfile, sdfile}
use Rattle.reader_walk.specs.Outcome.{outcome_of}
use Rattle.reader_walk.specs.Walked.{walk_of}
use Rattle.reader_answer.specs.declared.RecordRead.{RecordRead}
use Rattle.reader_answer.specs.Read.{answered, atoms_by, bonds_by, read_as, atoms_as, bonds_as, read_of, atoms_after, bonds_after, RowsLeft}
use Rattle.reader_answer.specs.TablesRead.{enough, atoms_enough, bonds_enough, short_atoms, short_bonds, atoms_beside, bonds_beside, bonds_short}
use Rattle.reader_answer.proofs.TablesRead.{atoms_short}
use Rattle.reader_answer.specs.TablesRead.{kind_mol, kind_none, atoms_mol, atoms_sd, atoms_none, bonds_mol, bonds_sd, bonds_none}
use Rattle.reader_answer.proofs.TablesRead.{kind_sd}
use Rattle.reader_answer.specs.Rows.{cleared_left}
use Rattle.reader_answer.specs.Promise.{numbers_of, Roomy, Reads, Untouched, kind_number, ReadPromise}
use Rattle.reader_answer.specs.Promised.{reads, la, lb, by_room_lem, kind_of_lem}

-- ---- Tables of any length, and any kind

module _ (s : Bytes) (ta tb : List ℤ) where
  by_kind : (k : FileKind) → (read_of (kind_number k) (la s ta tb) (lb s ta tb) s ≡ read_as k (la s ta tb) (lb s ta tb) s) × (atoms_after (kind_number k) (lb s ta tb) s ta ≡ atoms_as k (lb s ta tb) s ta) ×
      (bonds_after (kind_number k) (la s ta tb) s tb ≡ bonds_as k (la s ta tb) s tb)
  unfolding read_of atoms_after bonds_after
  by_kind molfile = (refl, refl, refl)
  by_kind sdfile = (refl, refl, refl)

  unread : (k : FileKind) → ¬ Roomy ta tb → Untouched 2 ta tb (numbers_of (read_as k (la s ta tb) (lb s ta tb) s)) (atoms_as k (lb s ta tb) s ta) (bonds_as k (la s ta tb) s tb)
  unread k n =
      by_room_lem s ta tb (Untouched 2 ta tb (numbers_of (read_as k (la s ta tb) (lb s ta tb) s)) (atoms_as k (lb s ta tb) s ta) (bonds_as k (la s ta tb) s tb)) (λ r. absurd (n r))
      (λ h. (sym (ap numbers_of (short_atoms k s (la s ta tb) (lb s ta tb) (RecordRead.Refused 2 0 0) h refl)), sym (atoms_short k s (lb s ta tb) ta h), sym (bonds_beside k s (la s ta tb) tb h)))
      (λ h i. (sym (ap numbers_of (short_bonds k s (la s ta tb) (lb s ta tb) (RecordRead.Refused 2 0 0) h i refl)), sym (atoms_beside k s (lb s ta tb) ta h i), sym (bonds_short k s (la s ta tb) tb h i)))

  read_with_lem : (k : FileKind) → Roomy ta tb → Reads k s ta tb (numbers_of (read_as k (la s ta tb) (lb s ta tb) s)) (atoms_as k (lb s ta tb) s ta) (bonds_as k (la s ta tb) s tb)
  read_with_lem k r =
      subst (λ (z : List ℤ). Reads k s ta tb (numbers_of (read_as k (la s ta tb) (lb s ta tb) s)) (atoms_as k (lb s ta tb) s ta) z) (bonds_enough k s (la s ta tb) tb (bonds_by tb (outcome_of k s)) r.atoms r.bonds refl)
      (subst (λ (z : List ℤ). Reads k s ta tb (numbers_of (read_as k (la s ta tb) (lb s ta tb) s)) z (bonds_by tb (outcome_of k s)))
      (atoms_enough k s (lb s ta tb) ta (atoms_by ta (outcome_of k s)) r.atoms r.bonds refl)
      (subst (λ (z : RecordRead). Reads k s ta tb (numbers_of z) (atoms_by ta (outcome_of k s)) (bonds_by tb (outcome_of k s)))
      (enough k s (la s ta tb) (lb s ta tb) (answered (walk_of k s)) r.atoms r.bonds refl) (reads k s ta tb)))

  other : (kind : ℕ) → 2 ≤ kind → (read_of kind (la s ta tb) (lb s ta tb) s ≡ RecordRead.Refused 1 0 0) × (atoms_after kind (lb s ta tb) s ta ≡ ta) × (bonds_after kind (la s ta tb) s tb ≡ tb)
  unfolding read_of atoms_after bonds_after
  other zero h = absurd (omega arith)
  other (suc zero) h = absurd (omega arith)
  other (suc (suc kind)) h = (refl, refl, refl)

  pub promise : (kind : ℕ) (r : RecordRead) (ta' tb' : List ℤ) → r ≡ read_of kind (la s ta tb) (lb s ta tb) s → ta' ≡ atoms_after kind (lb s ta tb) s ta → tb' ≡ bonds_after kind (la s ta tb) s tb →
      ReadPromise kind s ta tb r ta' tb'
  promise kind r ta' tb' e f g =
      record {
        other_kind = λ h. let o = other kind h in (ap numbers_of (e ∙ o.0), f ∙ o.1, g ∙ o.2);
        no_room = λ h n.
            let k = kind_of_lem s ta tb kind h in
            let u = unread k.0 n in
            (ap numbers_of (is k.0 k.1) ∙ u.0, atoms_are k.0 k.1 ∙ u.1, bonds_are k.0 k.1 ∙ u.2);
        reads = λ k h room.
            subst (λ (z : List ℤ). Reads k s ta tb (numbers_of r) ta' z) (sym (bonds_are k h))
            (subst (λ (z : List ℤ). Reads k s ta tb (numbers_of r) z (bonds_as k (la s ta tb) s tb)) (sym (atoms_are k h))
            (subst (λ (z : RecordRead). Reads k s ta tb (numbers_of z) (atoms_as k (lb s ta tb) s ta) (bonds_as k (la s ta tb) s tb)) (sym (is k h)) (read_with_lem k room)));
      }
    where
      is : (k : FileKind) → kind ≡ kind_number k → r ≡ read_as k (la s ta tb) (lb s ta tb) s
      is k h = e ∙ ap (λ (i : ℕ). read_of i (la s ta tb) (lb s ta tb) s) h ∙ (by_kind k).0

      atoms_are : (k : FileKind) → kind ≡ kind_number k → ta' ≡ atoms_as k (lb s ta tb) s ta
      atoms_are k h = f ∙ ap (λ (i : ℕ). atoms_after i (lb s ta tb) s ta) h ∙ (by_kind k).1

      bonds_are : (k : FileKind) → kind ≡ kind_number k → tb' ≡ bonds_as k (la s ta tb) s tb
      bonds_are k h = g ∙ ap (λ (i : ℕ). bonds_after i (la s ta tb) s tb) h ∙ (by_kind k).2

  -- a kind and tables that a record is read into: the tables begin with the rows
  pub after_left : (kind : ℕ) (k : FileKind) (ta' tb' : List ℤ) → kind ≡ kind_number k → Roomy ta tb → ta' ≡ atoms_after kind (lb s ta tb) s ta → tb' ≡ bonds_after kind (la s ta tb) s tb →
      RowsLeft ta ta' tb tb' (outcome_of k s)
  after_left kind k ta' tb' h y f g =
      let o = outcome_of k s in
      let ea = f ∙ ap (λ (i : ℕ). atoms_after i (lb s ta tb) s ta) h ∙ (by_kind k).1 ∙ sym (atoms_enough k s (lb s ta tb) ta (atoms_by ta o) y.atoms y.bonds refl) in
      let eb = g ∙ ap (λ (i : ℕ). bonds_after i (la s ta tb) s tb) h ∙ (by_kind k).2 ∙ sym (bonds_enough k s (la s ta tb) tb (bonds_by tb o) y.atoms y.bonds refl) in
      subst (λ (z : List ℤ). RowsLeft ta ta' tb z o) (sym eb) (subst (λ (z : List ℤ). RowsLeft ta z tb (bonds_by tb o) o) (sym ea) (cleared_left k s ta tb y))

-- as the code comes to its three ends
pub promise_mol : (s : Bytes) (ta tb : List ℤ) (kind : ℕ) (r : RecordRead) (ta' tb' : List ℤ) → kind ≡ 0 → r ≡ read_as molfile (length ta) (length tb) s →
    ta' ≡ atoms_as molfile (length tb) s ta → tb' ≡ bonds_as molfile (length ta) s tb → ReadPromise kind s ta tb r ta' tb'
promise_mol s ta tb kind r ta' tb' k e f g =
    promise s ta tb kind r ta' tb' (kind_mol kind s (length ta) (length tb) r k e) (atoms_mol kind s (length tb) ta ta' k f) (bonds_mol kind s (length ta) tb tb' k g)

pub promise_sd : (s : Bytes) (ta tb : List ℤ) (kind : ℕ) (r : RecordRead) (ta' tb' : List ℤ) → kind ≡ 1 → r ≡ read_as sdfile (length ta) (length tb) s →
    ta' ≡ atoms_as sdfile (length tb) s ta → tb' ≡ bonds_as sdfile (length ta) s tb → ReadPromise kind s ta tb r ta' tb'
promise_sd s ta tb kind r ta' tb' k e f g =
    promise s ta tb kind r ta' tb' (kind_sd kind s (length ta) (length tb) r k e) (atoms_sd kind s (length tb) ta ta' k f) (bonds_sd kind s (length ta) tb tb' k g)

pub promise_none : (s : Bytes) (ta tb : List ℤ) (kind : ℕ) (r : RecordRead) → (kind ≡ 0 → ⊥) → (kind ≡ 1 → ⊥) → r ≡ RecordRead.Refused 1 0 0 → ReadPromise kind s ta tb r ta tb
promise_none s ta tb kind r z o e =
    promise s ta tb kind r ta tb (kind_none kind s (length ta) (length tb) r z o e) (atoms_none kind s (length tb) ta z o)
    (bonds_none kind s (length ta) tb z o)

pub ruleset promise_laws = (promise_mol, promise_sd, promise_none)
