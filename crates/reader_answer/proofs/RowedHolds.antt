-- A reading with rows keeps its promise, nothing else does, and but for the rows asked it answers what the reading without rows answers.
use Prim.Native.Nat.{ℕ, zero, suc, ◌≤◌, ◌<◌}
use Rattle.std.proofs.Common.{arith, sym, ◌∙◌}
use Rattle.std.specs.Prelude.{◌≡◌, List, [], Bool, length, drop, ℤ}
use Rattle.std.proofs.Math.Path.{refl, ap, subst}
use Rattle.std.proofs.Math.Bool.{true, false}
use Rattle.std.proofs.Math.Dec.{ltb}
use borrow.Author.Tests.{lt-ltb, le-ltb}
use Rattle.text.specs.Text.{Bytes}
use Rattle.rules.specs.Record.{atom_places, bond_places}
use Rattle.judge_file.specs.Place.{FileKind, molfile, sdfile}
use Rattle.reader_pairs.specs.Keys.{keys_of}
use Rattle.reader_rows.specs.Says.{row_places, emptied}
use Rattle.reader_rows.specs.Marked.{marked, marked_none, emptied_past, emptied_same}
use Rattle.reader_walk.specs.Outcome.{Outcome, whole, refused, outcome_of}
use Rattle.reader_walk.specs.Walked.{walked_by, walk_of, MarksBy, RowsMarked}
use Rattle.reader_walk.specs.Asked.{rows_asked}
use Rattle.reader_answer.specs.declared.Counted.{Counted}
use Rattle.reader_answer.specs.declared.RecordRead.{RecordRead}
use Rattle.reader_answer.specs.Read.{answered, atoms_by, bonds_by, read_as, atoms_as, bonds_as, read_of, atoms_after, bonds_after}
use Rattle.reader_answer.specs.Promise.{numbers_of, Roomy, Reads, kind_number}
use Rattle.reader_answer.specs.Promised.{by_room_lem, kind_of_lem, reads}
use Rattle.reader_answer.specs.Rowed.{After, after, kept, settled, bond_keys, rows_by, read_with, rowed_as, rowed_of, Asks, RowsSay, Kept, RowedPromise}
use Rattle.reader_answer.specs.RowedHolds.{rows_say, settled_read, asks, after_same, rowed_short_atoms, rowed_short_bonds, rowed_short_rows, rowed_mol, rowed_none}

-- ---- The rows

-- as the code comes to them: emptied, walked over, and emptied again after a refusal
pub rows_settled : (kind : FileKind) (s : Bytes) (ws ws₁ ws₂ ws' : List ℕ) (r : RecordRead) → ws₁ ≡ emptied ws → r ≡ answered (walk_of kind s) → RowsMarked ws₁ ws₂ (outcome_of kind s) →
    ws' ≡ settled r ws₂ → ws' ≡ rows_by ws (outcome_of kind s)
unfolding rows_by walk_of answered settled
rows_settled kind s ws ws₁ ws₂ ws' r e₁ er m e' = e' ∙ ap (λ (z : RecordRead). settled z ws₂) er ∙ go (outcome_of kind s) m.marks
  where
    go : (o : Outcome) → MarksBy ws₁ ws₂ o → settled (answered (walked_by kind s o)) ws₂ ≡ marked (emptied ws) (bond_keys o)
    go (whole x k) h = h ∙ ap (λ (us : List ℕ). marked us (keys_of x.molecule.bonds)) e₁
    go (refused e i c) h = emptied_same ws₂ ws (m.past ∙ ap (drop row_places) e₁ ∙ emptied_past ws) ∙ sym (marked_none (emptied ws))

pub settled_refused : (r : RecordRead) (e i column : ℕ) (ws ws' : List ℕ) → r ≡ RecordRead.Refused e i column → ws' ≡ emptied ws → ws' ≡ settled r ws
unfolding settled
settled_refused r e i column ws ws' q h = h ∙ ap (λ (z : RecordRead). settled z ws) (sym q)

pub ruleset settled_laws = (settled_read, settled_refused)

-- ---- As the code comes to its ends

module _ (kind : FileKind) (s : Bytes) (ta tb : List ℤ) (ws : List ℕ) (r : Counted) where
  pub rowed_enough : atom_places ≤ length ta → bond_places ≤ length tb → row_places ≤ length ws → (ta' tb' : List ℤ) (ws₁ ws₂ ws' : List ℕ) → ws₁ ≡ emptied ws →
      r.read ≡ answered (walk_of kind s) → r.asked ≡ rows_asked kind s → ta' ≡ atoms_by ta (outcome_of kind s) → tb' ≡ bonds_by tb (outcome_of kind s) →
      RowsMarked ws₁ ws₂ (outcome_of kind s) → ws' ≡ settled r.read ws₂ → after r ta' tb' ws' ≡ rowed_as kind s ta tb ws
  unfolding rowed_as read_with
  rowed_enough h k l ta' tb' ws₁ ws₂ ws' e₁ e f ea eb m e' =
      rw (le-ltb (length ta) atom_places h, le-ltb (length tb) bond_places k, le-ltb (length ws) row_places l)
      (after_same r ta' tb' ws' (read_with kind s ta tb ws) e f ea eb (rows_settled kind s ws ws₁ ws₂ ws' r.read e₁ e m e'))

pub ruleset rowed_room_laws = (rowed_short_atoms, rowed_short_bonds, rowed_short_rows, rowed_enough)

module _ (kind : ℕ) (s : Bytes) (ta tb : List ℤ) (ws : List ℕ) where
  pub rowed_sd : (y : After) → kind ≡ 1 → y ≡ rowed_as sdfile s ta tb ws → y ≡ rowed_of kind s ta tb ws
  unfolding rowed_of
  rowed_sd y e h = h ∙ ap (λ (k : ℕ). rowed_of k s ta tb ws) (sym e)

-- ---- The promise is kept

module _ (s : Bytes) (ta tb : List ℤ) (ws : List ℕ) where
  of_kind : (k : FileKind) → rowed_of (kind_number k) s ta tb ws ≡ rowed_as k s ta tb ws
  unfolding rowed_of
  of_kind molfile = refl
  of_kind sdfile = refl

  with_room : (k : FileKind) → Roomy ta tb → row_places ≤ length ws → rowed_as k s ta tb ws ≡ read_with k s ta tb ws
  unfolding rowed_as
  with_room k y l = rw (le-ltb (length ta) atom_places y.atoms, le-ltb (length tb) bond_places y.bonds, le-ltb (length ws) row_places l)

  few_rows : (k : FileKind) → Roomy ta tb → length ws < row_places → rowed_as k s ta tb ws ≡ kept 35 ta tb ws
  unfolding rowed_as
  few_rows k y l = rw (le-ltb (length ta) atom_places y.atoms, le-ltb (length tb) bond_places y.bonds, lt-ltb (length ws) row_places l)

  short : (k : FileKind) → ¬ Roomy ta tb → rowed_as k s ta tb ws ≡ kept 2 ta tb ws
  unfolding rowed_as
  short k n =
      by_room_lem s ta tb (rowed_as k s ta tb ws ≡ kept 2 ta tb ws) (λ y. absurd (n y))
      (λ h. rw (lt-ltb (length ta) atom_places h)) (λ h i. rw (le-ltb (length ta) atom_places h, lt-ltb (length tb) bond_places i))

  other : (kind : ℕ) → 2 ≤ kind → rowed_of kind s ta tb ws ≡ kept 1 ta tb ws
  unfolding rowed_of
  other zero h = absurd (omega arith)
  other (suc zero) h = absurd (omega arith)
  other (suc (suc kind)) h = refl

  keeps : (e : ℕ) (y : After) → y ≡ kept e ta tb ws → Kept e ta tb ws y
  keeps e y h = subst (Kept e ta tb ws) (sym h) ((refl, refl, refl), refl, refl)

  all_read : (k : FileKind) → row_places ≤ length ws → (y : After) → y ≡ read_with k s ta tb ws →
      Reads k s ta tb (numbers_of y.read) y.atoms y.bonds × RowsSay k s ws (numbers_of y.read) y.rows × Asks k s (numbers_of y.read) y.asked
  unfolding read_with
  all_read k l y e =
      subst (λ (z : After). Reads k s ta tb (numbers_of z.read) z.atoms z.bonds × RowsSay k s ws (numbers_of z.read) z.rows × Asks k s (numbers_of z.read) z.asked) (sym e)
      (reads k s ta tb, rows_say k s ws l, asks k s)

  pub rowed_promise : (kind : ℕ) (y : After) → y ≡ rowed_of kind s ta tb ws → RowedPromise kind s ta tb ws y
  rowed_promise kind y e =
      record {
        other_kind = λ h. keeps 1 y (e ∙ other kind h);
        no_room = λ h n. let k = kind_of_lem s ta tb kind h in keeps 2 y (is k.0 k.1 ∙ short k.0 n);
        no_rows = λ h room l. let k = kind_of_lem s ta tb kind h in keeps 35 y (is k.0 k.1 ∙ few_rows k.0 room l);
        reads = λ k h room l. all_read k l y (is k h ∙ with_room k room l);
      }
    where
      is : (k : FileKind) → kind ≡ kind_number k → y ≡ rowed_as k s ta tb ws
      is k h = e ∙ ap (λ (i : ℕ). rowed_of i s ta tb ws) h ∙ of_kind k

  -- ---- But for the rows asked, rows with room change no answer, no refusal and no table

  same_as_lem : (k : FileKind) → row_places ≤ length ws →
      ((rowed_as k s ta tb ws).read ≡ read_as k (length ta) (length tb) s) × ((rowed_as k s ta tb ws).atoms ≡ atoms_as k (length tb) s ta) ×
      ((rowed_as k s ta tb ws).bonds ≡ bonds_as k (length ta) s tb)
  unfolding rowed_as read_as atoms_as bonds_as read_with
  same_as_lem k l = go (ltb (length ta) atom_places) refl (ltb (length tb) bond_places) refl
    where
      go : (t : Bool) → ltb (length ta) atom_places ≡ t → (u : Bool) → ltb (length tb) bond_places ≡ u →
          ((rowed_as k s ta tb ws).read ≡ read_as k (length ta) (length tb) s) × ((rowed_as k s ta tb ws).atoms ≡ atoms_as k (length tb) s ta) ×
          ((rowed_as k s ta tb ws).bonds ≡ bonds_as k (length ta) s tb)
      go true a u b = (rw a, rw a, rw a)
      go false a true b = (rw (a, b), rw (a, b), rw (a, b))
      go false a false b = let c = le-ltb (length ws) row_places l in (rw (a, b, c), rw (a, b, c), rw (a, b, c))

  pub same_answer : (kind : ℕ) → row_places ≤ length ws →
      ((rowed_of kind s ta tb ws).read ≡ read_of kind (length ta) (length tb) s) × ((rowed_of kind s ta tb ws).atoms ≡ atoms_after kind (length tb) s ta) ×
      ((rowed_of kind s ta tb ws).bonds ≡ bonds_after kind (length ta) s tb)
  unfolding rowed_of read_of atoms_after bonds_after
  same_answer zero l = same_as_lem molfile l
  same_answer (suc zero) l = same_as_lem sdfile l
  same_answer (suc (suc kind)) l = (refl, refl, refl)

-- ---- The promise, as the code comes to its three ends

pub rowed_promise_mol : (kind : ℕ) (s : Bytes) (ta tb : List ℤ) (ws : List ℕ) (y : After) → kind ≡ 0 → y ≡ rowed_as molfile s ta tb ws → RowedPromise kind s ta tb ws y
rowed_promise_mol kind s ta tb ws y e h = rowed_promise s ta tb ws kind y (rowed_mol kind s ta tb ws y e h)

pub rowed_promise_sd : (kind : ℕ) (s : Bytes) (ta tb : List ℤ) (ws : List ℕ) (y : After) → kind ≡ 1 → y ≡ rowed_as sdfile s ta tb ws → RowedPromise kind s ta tb ws y
rowed_promise_sd kind s ta tb ws y e h = rowed_promise s ta tb ws kind y (rowed_sd kind s ta tb ws y e h)

pub rowed_promise_none : (kind : ℕ) (s : Bytes) (ta tb : List ℤ) (ws : List ℕ) (r : Counted) → (kind ≡ 0 → ⊥) → (kind ≡ 1 → ⊥) → r.read ≡ RecordRead.Refused 1 0 0 → r.asked ≡ 0 →
    RowedPromise kind s ta tb ws (after r ta tb ws)
rowed_promise_none kind s ta tb ws r z o e f = rowed_promise s ta tb ws kind (after r ta tb ws) (rowed_none kind s ta tb ws r z o e f)

pub ruleset rowed_kind_laws = (rowed_mol, rowed_sd, rowed_none, rowed_promise_mol, rowed_promise_sd, rowed_promise_none)
