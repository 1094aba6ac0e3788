-- What copying a record promises, in the words of the rules: when it writes, what then stands in the room and in the tables, and what each refusal means.
use Rattle.std.specs.Prelude.{ℕ, zero, suc, ◌≤◌, ◌<◌, ◌≡◌, ◌↔◌, Bool, true, false, cond, ltb, ℤ}
use Rattle.std.proofs.Common.{arith, ◌∙◌, subst, le-ltb, ltb-true, ltb-false}
use Rattle.std.proofs.Math.Path.{refl, sym, ap}
use mathlib.Core.List.{List, [], ◌∷◌, ◌++◌, map, append-nil}
use Rattle.std.proofs.Math.ListN.{length, drop}
use Rattle.text.specs.Text.{Bytes, Line}
use Rattle.text.specs.Written.{text}
use Rattle.rules.specs.Record.{Raw, Record, GoodSDfile, limit, atom_places, bond_places}
use Rattle.rules.specs.Meaning.{meaning}
use Rattle.rules.specs.Write.{file_lines}
use Rattle.rules.specs.Canon.{Good, AllGood, canon_lines, canon_file}
use Rattle.rules.proofs.CanonGood.{canon_text_lem, canon_only}
use Rattle.rules.specs.Handed.{closed_items}
use Rattle.rules.proofs.Rewritten.{record_good}
use Rattle.judge_file.specs.Place.{FileKind, molfile, sdfile}
use Rattle.judge_file.specs.Front.{parts_front}
use Rattle.judge_file.specs.Witness.{record_end}
use Rattle.reader_walk.specs.Outcome.{Outcome, refused, outcome_of}
use Rattle.reader_walk.specs.Walked.{walked_by, walk_of}
use Rattle.reader_answer.specs.declared.RecordRead.{RecordRead}
use Rattle.reader_answer.specs.Read.{answered, read_as, read_of, atoms_after, bonds_after}
use Rattle.reader_answer.specs.Promise as R
use Rattle.reader_answer.specs.Promise.{Reply, Begins, Told, Roomy, kind_number, ReadPromise}
use Rattle.reader_answer.specs.Told.{begins_told}
use Rattle.judge_file.specs.Verdict.{Verdict, accepted}
use Rattle.writer_answer.specs.declared.Copied.{Copied}
use Rattle.writer_answer.specs.Copy.{text_of, fitting, copy_for, copy_of, room_after}

-- a record of t bytes and j lines begins the text, and room of k bytes holds its text of l bytes
pub record Copies (kind : ℕ) (s : Bytes) (ta tb : List ℤ) (k t j l : ℕ) : Type 0 where
  pub f : FileKind
  pub kind_is_lem : kind ≡ kind_number f
  pub roomy : Roomy ta tb
  pub x : Raw
  pub begins : Begins f s x
  pub told : (w : Reply) × Told f s x w × (t ≡ w.bytes) × (j ≡ w.lines)
  pub size : l ≡ length (text_of x)
  pub fits : l ≤ k

-- what is wrong, in room of k bytes: the first of these, in this order
pub data Refusal (kind : ℕ) (s : Bytes) (ta tb : List ℤ) (k : ℕ) : ℕ → ℕ → ℕ → Type 0 where
  other_kind : 2 ≤ kind → Refusal kind s ta tb k 1 0 0
  tables : kind ≤ 1 → ¬ Roomy ta tb → Refusal kind s ta tb k 2 0 0
  -- as reading it is refused
  unread : {e i c : ℕ} (f : FileKind) → kind ≡ kind_number f → Roomy ta tb → R.Refusal f s e i c → Refusal kind s ta tb k e i c
  room : (x : Raw) (f : FileKind) → kind ≡ kind_number f → Roomy ta tb → Begins f s x → k < length (text_of x) → Refusal kind s ta tb k 20 0 0

-- the bytes and lines that a record takes, and the length of its text
pub record Lengths : Type 0 where
  pub taken : ℕ
  pub lines : ℕ
  pub text : ℕ

-- what an answer says: these, or the number, line and column of a refusal
abbrev pub numbers_of : Copied → Verdict Lengths
numbers_of (Copied.Done t j l) = accepted (record { taken = t; lines = j; text = l })
numbers_of (Copied.Refused e i c) = Verdict.refused e i c

-- tables ta₀ and tb₀ and room r₀ were lent, a is the answer, and they are then ta, tb and r
pub record Promise (kind : ℕ) (s : Bytes) (ta₀ tb₀ : List ℤ) (r₀ : Bytes) (a : Copied) (ta tb : List ℤ) (r : Bytes) : Type 0 where
  pub answer : a ≡ copy_of kind (length ta₀) (length tb₀) s (length r₀)
  pub room : r ≡ room_after kind (length ta₀) (length tb₀) s r₀
  pub atoms : ta ≡ atoms_after kind (length tb₀) s ta₀
  pub bonds : tb ≡ bonds_after kind (length ta₀) s tb₀
  -- the tables are as a reading leaves them
  pub tables : ReadPromise kind s ta₀ tb₀ (read_of kind (length ta₀) (length tb₀) s) ta tb
  pub accepted : (t j l : ℕ) → (numbers_of a ≡ Verdict.accepted (record { taken = t; lines = j; text = l })) ↔ Copies kind s ta₀ tb₀ (length r₀) t j l
  pub written : (t j l : ℕ) (c : Copies kind s ta₀ tb₀ (length r₀) t j l) → r ≡ text_of c.x ++ drop l r₀
  pub refused : (e i c : ℕ) → numbers_of a ≡ Verdict.refused e i c → (r ≡ r₀) × Refusal kind s ta₀ tb₀ (length r₀) e i c

-- no two answers, and no two memories
pub one_promise : {kind : ℕ} {s : Bytes} {ta₀ tb₀ : List ℤ} {r₀ : Bytes} {a b : Copied} {ta tb ua ub : List ℤ} {r q : Bytes} →
    Promise kind s ta₀ tb₀ r₀ a ta tb r → Promise kind s ta₀ tb₀ r₀ b ua ub q → (a ≡ b) × (ta ≡ ua) × (tb ≡ ub) × (r ≡ q)
one_promise p q = (p.answer ∙ sym q.answer, p.atoms ∙ sym q.atoms, p.bonds ∙ sym q.bonds, p.room ∙ sym q.room)

-- ---- A record that was read can be written

module _ {f : FileKind} {s : Bytes} {x : Raw} {w : Reply} (d : Told f s x w) where
  pub told_good : Good limit (meaning x)
  told_good = record_good (Record.record_of {r = []} ((parts_front d.molecule.2).any (d.items.0 ++ (_ ∷ []))) (closed_items d.items.2 record_end))

begins_good : (f : FileKind) (s : Bytes) (x : Raw) → Begins f s x → Good limit (meaning x)
begins_good f s x b = told_good (begins_told f s x b)

-- ---- What is written stands for the record, and for nothing else

module _ (f : FileKind) (s : Bytes) (x : Raw) (b : Begins f s x) where
  all_good : AllGood limit (meaning x ∷ [])
  unfolding AllGood
  all_good = (begins_good f s x b, tt)

  one_text : canon_file (meaning x ∷ []) ≡ canon_lines (meaning x)
  unfolding file_lines
  one_text = append-nil (canon_lines (meaning x))

  pub text_stands : (rs : List Raw) × GoodSDfile (text_of x) rs × (map meaning rs ≡ meaning x ∷ [])
  text_stands =
      let g = canon_text_lem (meaning x ∷ []) all_good in
      (g.0, subst (λ (ls : List Line). GoodSDfile (text ls) g.0) one_text g.1, g.2)

  pub text_only : (rs : List Raw) → GoodSDfile (text_of x) rs → map meaning rs ≡ meaning x ∷ []
  text_only rs h = canon_only (meaning x ∷ []) rs all_good (subst (λ (ls : List Line). GoodSDfile (text ls) rs) (sym one_text) h)

-- ---- Kind and tables

module _ (kind : ℕ) (s : Bytes) (ta tb : List ℤ) (k : ℕ) where
  -- what reading answers, and what copying does
  pub data Seen : RecordRead → Outcome → Type 0 where
    other_kind : 2 ≤ kind → Seen (RecordRead.Refused 1 0 0) (refused 1 0 0)
    tables : kind ≤ 1 → ¬ Roomy ta tb → Seen (RecordRead.Refused 2 0 0) (refused 2 0 0)
    walked : (f : FileKind) → kind ≡ kind_number f → Roomy ta tb → Seen (answered (walked_by f s (outcome_of f s))) (fitting k (outcome_of f s))

  by_room_lem : (f : FileKind) → kind ≡ kind_number f → kind ≤ 1 → (t : Bool) → ltb (length ta) atom_places ≡ t → (u : Bool) → ltb (length tb) bond_places ≡ u →
      Seen (cond t (RecordRead.Refused 2 0 0) (cond u (RecordRead.Refused 2 0 0) (answered (walked_by f s (outcome_of f s)))))
      (cond t (refused 2 0 0) (cond u (refused 2 0 0) (fitting k (outcome_of f s))))
  by_room_lem f e few true p u q = let h = ltb-true (length ta) atom_places p in Seen.tables few (λ y. omega (arith, y.atoms))
  by_room_lem f e few false p true q = let h = ltb-true (length tb) bond_places q in Seen.tables few (λ y. omega (arith, y.bonds))
  by_room_lem f e few false p false q = Seen.walked f e (record { atoms = ltb-false (length ta) atom_places p; bonds = ltb-false (length tb) bond_places q })

pub seen : (kind : ℕ) (s : Bytes) (ta tb : List ℤ) (k : ℕ) → Seen kind s ta tb k (read_of kind (length ta) (length tb) s) (copy_for kind (length ta) (length tb) s k)
unfolding read_of read_as walk_of copy_for
seen zero s ta tb k = by_room_lem zero s ta tb k molfile refl (omega arith) (ltb (length ta) atom_places) refl (ltb (length tb) bond_places) refl
seen (suc zero) s ta tb k = by_room_lem (suc zero) s ta tb k sdfile refl (omega arith) (ltb (length ta) atom_places) refl (ltb (length tb) bond_places) refl
seen (suc (suc kind)) s ta tb k = Seen.other_kind (omega arith)

-- a kind and tables that a record is read into
pub seen_walked : (kind : ℕ) (s : Bytes) (ta tb : List ℤ) (k : ℕ) (f : FileKind) → kind ≡ kind_number f → Roomy ta tb →
    copy_for kind (length ta) (length tb) s k ≡ fitting k (outcome_of f s)
unfolding copy_for
seen_walked kind s ta tb k molfile e y = rw (e, le-ltb (length ta) atom_places y.atoms, le-ltb (length tb) bond_places y.bonds)
seen_walked kind s ta tb k sdfile e y = rw (e, le-ltb (length ta) atom_places y.atoms, le-ltb (length tb) bond_places y.bonds)

-- ---- The definitions keep the promise

-- the numbers tell the answer
abbrev back_of : Verdict Lengths → Copied
back_of (accepted w) = Copied.Done w.taken w.lines w.text
back_of (Verdict.refused e i c) = Copied.Refused e i c

pub same_copied : (a b : Copied) → numbers_of a ≡ numbers_of b → a ≡ b
same_copied a b h = sym (back a) ∙ ap back_of h ∙ back b
  where
    back : (x : Copied) → back_of (numbers_of x) ≡ x
    back (Copied.Done t j l) = refl
    back (Copied.Refused e i c) = refl
