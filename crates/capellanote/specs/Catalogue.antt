-- The answer of the writing of a catalogue: what the array tells in the words of the rules.
use Rattle.std.specs.Prelude.{ℕ, ◌≤◌, ◌≡◌, ◌↔◌, List, length, ℤ}
use Rattle.std.proofs.Common.{arith, sym, ap, ◌∙◌, subst}
use Rattle.std.proofs.Math.Path.{refl}
use Rattle.text.specs.Text.{Bytes}
use Rattle.rules.specs.Record.{Raw, GoodSDfile}
use Rattle.reader_answer.specs.Promise.{Roomy}
use Rattle.writer_answer.specs.declared.Catalogue.{Catalogue}
use Rattle.writer_answer.specs.Catalogue.{catalogue_text, catalogue_of}
use Rattle.writer_answer.specs.CataloguePromise.{Refusal, Promise}
use Rattle.capellanote_numbers.specs.Numbers.{catalogue_numbers}
use Rattle.capellanote.specs.Answer.{number, by_first, first_refused, zero_exactly}
use Rattle.capellanote.specs.Check.{at_numbered}

-- what an array tells
unfoldable pub catalogue_told : List ℕ → Catalogue
catalogue_told a = by_first (number a 0) (Catalogue.Done (number a 1) (number a 2)) (λ e. Catalogue.Refused e (number a 1) (number a 2))

-- ---- It tells that answer, since no refusal has the number 0

numbered : {s : Bytes} {ta tb : List ℤ} {k e i column : ℕ} → Refusal s ta tb k e i column → 1 ≤ e
numbered (Refusal.tables n) = omega arith
numbered (Refusal.file y r) = at_numbered r
numbered (Refusal.room y g h) = omega arith

module _ (s : Bytes) (ta₀ tb₀ : List ℤ) (r₀ : Bytes) (ta tb : List ℤ) (r : Bytes) where
  tells : (x : Catalogue) → Promise s ta₀ tb₀ r₀ x ta tb r → catalogue_told (catalogue_numbers x) ≡ x
  unfolding catalogue_numbers catalogue_told
  tells (Catalogue.Done l c) p = refl
  tells (Catalogue.Refused e i column) p =
      first_refused e (Catalogue.Done i column) (λ (n : ℕ). Catalogue.Refused n i column) (numbered ((p.refused e i column).0 refl))

  pub catalogue_held : (x : Catalogue) (out : List ℕ) → out ≡ catalogue_numbers x → Promise s ta₀ tb₀ r₀ x ta tb r → out ≡ catalogue_numbers (catalogue_of ta₀ tb₀ s (length r₀))
  catalogue_held x out e p = e ∙ ap catalogue_numbers p.answer

  pub catalogue_told_lem : (x : Catalogue) (out : List ℕ) → out ≡ catalogue_numbers x → Promise s ta₀ tb₀ r₀ x ta tb r → Promise s ta₀ tb₀ r₀ (catalogue_told out) ta tb r
  catalogue_told_lem x out e p = subst (λ (y : Catalogue). Promise s ta₀ tb₀ r₀ y ta tb r) (sym (ap catalogue_told e ∙ tells x p)) p

pub ruleset catalogue_laws = (catalogue_held, catalogue_told_lem)

-- ---- The first number is 0 exactly for tables with room and a good SDfile whose text fits

module _ (s : Bytes) (ta₀ tb₀ : List ℤ) (r₀ : Bytes) (ta tb : List ℤ) (r : Bytes) (a : List ℕ) (p : Promise s ta₀ tb₀ r₀ (catalogue_told a) ta tb r) where
  abbrev Good : Type 0
  Good = Roomy ta₀ tb₀ × ((xs : List Raw) × GoodSDfile s xs × (length (catalogue_text xs) ≤ length r₀))

  told : catalogue_told a ≡ Catalogue.Done (number a 1) (number a 2) → Good
  told h =
      let q = subst (λ (y : Catalogue). Promise s ta₀ tb₀ r₀ y ta tb r) h p in
      let d = (q.accepted (number a 1) (number a 2)).0 refl in
      (d.1, (d.0, d.2, omega (arith, d.3, d.5)))

  kept : Good → (n : ℕ) → catalogue_told a ≡ Catalogue.Refused n (number a 1) (number a 2) → ⊥
  kept x n h =
      let q = subst (λ (y : Catalogue). Promise s ta₀ tb₀ r₀ y ta tb r) h p in
      let xs = x.1.0 in
      let e = (q.accepted (length (catalogue_text xs)) (length xs)).1 (xs, x.0, x.1.1, refl, refl, x.1.2) in
      absurd (let z : ◌≡◌ {A = ℕ} 0 1 = cc in omega arith)

  pub catalogue_good : (number a 0 ≡ 0) ↔ Good
  unfolding catalogue_told
  catalogue_good = zero_exactly (number a 0) (Catalogue.Done (number a 1) (number a 2)) (λ (e : ℕ). Catalogue.Refused e (number a 1) (number a 2)) told kept
