-- The answer of the copying of a record: what the array tells in the words of the rules.
use Rattle.std.specs.Prelude.{ℕ, ◌≤◌, ◌≡◌, ◌↔◌, List, length, ℤ}
use Rattle.std.proofs.Common.{arith, sym, ap, ◌∙◌, subst}
use Rattle.std.proofs.Math.Path.{refl}
use Rattle.text.specs.Text.{Bytes}
use Rattle.writer_answer.specs.declared.Copied.{Copied}
use Rattle.writer_answer.specs.Copy.{copy_of}
use Rattle.writer_answer.specs.CopyPromise.{Copies, Refusal, Promise}
use Rattle.capellanote_numbers.specs.Numbers.{copied_numbers}
use Rattle.capellanote.specs.Answer.{number, by_first, first_refused, zero_exactly}
use Rattle.capellanote.specs.Read.{refusal_numbered}

-- what an array tells
unfoldable pub copied_told : List ℕ → Copied
copied_told a = by_first (number a 0) (Copied.Done (number a 1) (number a 2) (number a 3)) (λ e. Copied.Refused e (number a 1) (number a 2))

-- ---- It tells that answer, since no refusal has the number 0

numbered : {kind : ℕ} {s : Bytes} {ta tb : List ℤ} {k e i column : ℕ} → Refusal kind s ta tb k e i column → 1 ≤ e
numbered (Refusal.other_kind h) = omega arith
numbered (Refusal.tables h n) = omega arith
numbered {s = s} (Refusal.unread {e = e} {i = i} {c = c} f h y r) = refusal_numbered f s e i c r
numbered (Refusal.room x f h y b l) = omega arith

module _ (kind : ℕ) (s : Bytes) (ta₀ tb₀ : List ℤ) (r₀ : Bytes) (ta tb : List ℤ) (r : Bytes) where
  tells : (x : Copied) → Promise kind s ta₀ tb₀ r₀ x ta tb r → copied_told (copied_numbers x) ≡ x
  unfolding copied_numbers copied_told
  tells (Copied.Done t j l) p = refl
  tells (Copied.Refused e i column) p = first_refused e (Copied.Done i column 0) (λ (n : ℕ). Copied.Refused n i column) (numbered (p.refused e i column refl).1)

  pub copied_held : (x : Copied) (out : List ℕ) → out ≡ copied_numbers x → Promise kind s ta₀ tb₀ r₀ x ta tb r → out ≡ copied_numbers (copy_of kind (length ta₀) (length tb₀) s (length r₀))
  copied_held x out e p = e ∙ ap copied_numbers p.answer

  pub copied_told_lem : (x : Copied) (out : List ℕ) → out ≡ copied_numbers x → Promise kind s ta₀ tb₀ r₀ x ta tb r → Promise kind s ta₀ tb₀ r₀ (copied_told out) ta tb r
  copied_told_lem x out e p = subst (λ (y : Copied). Promise kind s ta₀ tb₀ r₀ y ta tb r) (sym (ap copied_told e ∙ tells x p)) p

pub ruleset copied_laws = (copied_held, copied_told_lem)

-- ---- The first number is 0 exactly where a record begins the text, and its text fits

module _ (kind : ℕ) (s : Bytes) (ta₀ tb₀ : List ℤ) (r₀ : Bytes) (ta tb : List ℤ) (r : Bytes) (a : List ℕ) (p : Promise kind s ta₀ tb₀ r₀ (copied_told a) ta tb r) where
  abbrev Good : Type 0
  Good = (t : ℕ) × (j : ℕ) × (l : ℕ) × Copies kind s ta₀ tb₀ (length r₀) t j l

  told : copied_told a ≡ Copied.Done (number a 1) (number a 2) (number a 3) → Good
  told h =
      let q = subst (λ (y : Copied). Promise kind s ta₀ tb₀ r₀ y ta tb r) h p in
      (number a 1, number a 2, number a 3, (q.accepted (number a 1) (number a 2) (number a 3)).0 refl)

  kept : Good → (n : ℕ) → copied_told a ≡ Copied.Refused n (number a 1) (number a 2) → ⊥
  kept c n h =
      let q = subst (λ (y : Copied). Promise kind s ta₀ tb₀ r₀ y ta tb r) h p in
      let e = (q.accepted c.0 c.1 c.2).1 c.3 in
      absurd (let z : ◌≡◌ {A = ℕ} 0 1 = cc in omega arith)

  pub copy_good : (number a 0 ≡ 0) ↔ Good
  unfolding copied_told
  copy_good = zero_exactly (number a 0) (Copied.Done (number a 1) (number a 2) (number a 3)) (λ (e : ℕ). Copied.Refused e (number a 1) (number a 2)) told kept
