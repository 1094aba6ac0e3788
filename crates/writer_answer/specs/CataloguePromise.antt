-- What a catalogue writer promises, in the words of the rules: when it writes, what then stands in the room, what that text stands for, and what each
-- refusal means.
use Rattle.std.specs.Prelude.{ℕ, ◌≤◌, ◌<◌, ◌≡◌, ◌↔◌, Bool, ◌&&◌, drop, ℤ}
use Rattle.std.proofs.Common.{arith, sym, ◌∙◌}
use Rattle.std.proofs.Math.Path.{refl}
use Rattle.std.proofs.Math.Bool.{true, false}
use mathlib.Core.List.{List, [], ◌++◌, map}
use Rattle.std.proofs.Math.ListN.{length}
use Rattle.text.specs.Text.{Bytes}
use Rattle.text.specs.Written.{text}
use Rattle.rules.specs.Record.{Raw, GoodSDfile, atom_places, bond_places}
use Rattle.rules.specs.Meaning.{meaning}
use Rattle.rules.proofs.CanonGood.{canon_text_lem}
use Rattle.rules.proofs.Rewritten.{sdfile_good}
use Rattle.judge_file.specs.Place.{sdfile}
use Rattle.judge_file.specs.Verdict.{Verdict, accepted, refused}
use Rattle.reader_walk.specs.Promise.{RefusedAt}
use Rattle.reader_answer.specs.Read.{rows_in}
use Rattle.reader_answer.specs.Promise.{Roomy}
use Rattle.writer_answer.specs.declared.Catalogue.{Catalogue}
use Rattle.writer_answer.specs.Catalogue.{catalogue_text, catalogue_of, room_after, atoms_after, bonds_after}

-- ---- What an answer says

-- the length of the text, and the number of its records
pub record Size : Type 0 where
  pub text : ℕ
  pub records : ℕ

abbrev pub written : ℕ → ℕ → Verdict Size
written l c = accepted (record { text = l; records = c })

abbrev pub numbers_of : Catalogue → Verdict Size
numbers_of (Catalogue.Done l c) = written l c
numbers_of (Catalogue.Refused e line column) = refused e line column

-- ---- The promise

-- what is wrong, in room of k bytes: the first of these, in this order
pub data Refusal (s : Bytes) (ta tb : List ℤ) (k : ℕ) : ℕ → ℕ → ℕ → Type 0 where
  tables : ¬ Roomy ta tb → Refusal s ta tb k 2 0 0
  -- as the check refuses it
  file : {e line column : ℕ} → Roomy ta tb → RefusedAt sdfile s e line column → Refusal s ta tb k e line column
  room : {xs : List Raw} → Roomy ta tb → GoodSDfile s xs → k < length (catalogue_text xs) → Refusal s ta tb k 20 0 0

-- tables ta₀ and tb₀ and room r₀ were lent, a is the answer, and they are then ta, tb and r
pub record Promise (s : Bytes) (ta₀ tb₀ : List ℤ) (r₀ : Bytes) (a : Catalogue) (ta tb : List ℤ) (r : Bytes) : Type 0 where
  pub answer : a ≡ catalogue_of ta₀ tb₀ s (length r₀)
  pub room : r ≡ room_after ta₀ tb₀ s r₀
  pub atoms : ta ≡ atoms_after ta₀ tb₀
  pub bonds : tb ≡ bonds_after ta₀ tb₀
  pub accepted : (l c : ℕ) →
      (numbers_of a ≡ written l c) ↔ ((xs : List Raw) × Roomy ta₀ tb₀ × GoodSDfile s xs × (l ≡ length (catalogue_text xs)) × (c ≡ length xs) × (l ≤ length r₀))
  pub written : (xs : List Raw) → Roomy ta₀ tb₀ → GoodSDfile s xs → length (catalogue_text xs) ≤ length r₀ → r ≡ catalogue_text xs ++ drop (length (catalogue_text xs)) r₀
  pub refused : (e line column : ℕ) → (numbers_of a ≡ Verdict.refused e line column) ↔ Refusal s ta₀ tb₀ (length r₀) e line column
  pub untouched : (e line column : ℕ) → numbers_of a ≡ Verdict.refused e line column → r ≡ r₀
  -- no row is left; tables without room are as they were
  pub emptied : Roomy ta₀ tb₀ → (ta ≡ rows_in atom_places ta₀ []) × (tb ≡ rows_in bond_places tb₀ [])
  pub kept : ¬ Roomy ta₀ tb₀ → (ta ≡ ta₀) × (tb ≡ tb₀)

-- no two answers, and no two memories
pub one_promise : {s : Bytes} {ta₀ tb₀ : List ℤ} {r₀ : Bytes} {a b : Catalogue} {ta tb ua ub : List ℤ} {r q : Bytes} →
    Promise s ta₀ tb₀ r₀ a ta tb r → Promise s ta₀ tb₀ r₀ b ua ub q → (a ≡ b) × (ta ≡ ua) × (tb ≡ ub) × (r ≡ q)
one_promise p q = (p.answer ∙ sym q.answer, p.atoms ∙ sym q.atoms, p.bonds ∙ sym q.bonds, p.room ∙ sym q.room)

-- ---- What is written stands for the records of the file, and for no others

module _ (s : Bytes) (xs : List Raw) (f : GoodSDfile s xs) where
  pub text_stands : (rs : List Raw) × GoodSDfile (catalogue_text xs) rs × (map meaning rs ≡ map meaning xs)
  unfolding catalogue_text
  text_stands = canon_text_lem (map meaning xs) (sdfile_good f.2)

-- ---- The tests

pub both : {P Q : Type 0} (x y : Bool) → (x ≡ true → P) → (y ≡ true → Q) → (P → x ≡ true) → (Q → y ≡ true) → ((x && y) ≡ true) ↔ (P × Q)
both true true p q u v = ((λ h. (p refl, q refl)), (λ h. refl))
both true false p q u v = ((λ h. absurd (let z : ◌≡◌ {A = ℕ} 0 1 = cc in omega arith)), (λ h. v h.1))
both false y p q u v = ((λ h. absurd (let z : ◌≡◌ {A = ℕ} 0 1 = cc in omega arith)), (λ h. u h.0))
