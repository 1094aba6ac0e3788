-- The answer of the writing of a record: what the array tells in the words of the rules.
use Rattle.std.specs.Prelude.{Result, Ok, Err, ℕ, ◌≤◌, ◌≡◌, ◌↔◌, List, length}
use Rattle.std.proofs.Common.{arith, sym, ap, ◌∙◌, subst}
use Rattle.std.proofs.Math.Path.{refl}
use Rattle.text.specs.Text.{Bytes, Line}
use Rattle.rules.specs.Meaning.{Reading}
use Rattle.judge_parts.specs.AnyPart.{PartRefusal}
use Rattle.judge_file.specs.declared.TextRefusal.{TextRefusal}
use Rattle.writer_record.specs.Write.{Given, canon_text, write_of}
use Rattle.writer_record.specs.Promise.{Accepted, Refusal, Promise}
use Rattle.capellanote_numbers.specs.Numbers.{written_numbers}
use Rattle.capellanote.specs.Answer.{number, by_first, first_refused, zero_exactly}

-- what an array tells
unfoldable pub written_told : List ℕ → Result ℕ TextRefusal
written_told a = by_first (number a 0) (Ok (number a 1)) (λ e. Err (record { no = e; line = (number a 1); column = (number a 2) }))

-- ---- It tells that answer, since no refusal has the number 0

part_numbered : {L : List Line → Type 0} {Why : List Line → ℕ → ℕ → ℕ → Type 0} {s : Bytes} {e i column : ℕ} → PartRefusal L Why s e i column → 1 ≤ e
part_numbered (PartRefusal.line h m c d why) = omega (arith, m.0)
part_numbered (PartRefusal.cut_short h v bad) = omega arith

numbered : {g : Given} {k e i column : ℕ} → Refusal g k e i column → 1 ≤ e
numbered (Refusal.tables n) = omega arith
numbered (Refusal.writable y n) = omega arith
numbered (Refusal.headers y t r) = part_numbered r
numbered (Refusal.items y t h r) = part_numbered r
numbered (Refusal.room a h) = omega arith

module _ (g : Given) (r₀ r : Bytes) where
  tells : (x : Result ℕ TextRefusal) → Promise g r₀ x r → written_told (written_numbers x) ≡ x
  unfolding written_numbers written_told
  tells (Ok n) p = refl
  tells (Err f) p = first_refused f.no (Ok f.line) (λ (n : ℕ). Err (record { no = n; line = f.line; column = f.column })) (numbered (p.refused f.no f.line f.column refl).1)

  pub written_held : (x : Result ℕ TextRefusal) (out : List ℕ) → out ≡ written_numbers x → Promise g r₀ x r → out ≡ written_numbers (write_of g (length r₀))
  written_held x out e p = e ∙ ap written_numbers p.answer

  pub written_told_lem : (x : Result ℕ TextRefusal) (out : List ℕ) → out ≡ written_numbers x → Promise g r₀ x r → Promise g r₀ (written_told out) r
  written_told_lem x out e p = subst (λ (y : Result ℕ TextRefusal). Promise g r₀ y r) (sym (ap written_told e ∙ tells x p)) p

pub ruleset written_laws = (written_held, written_told_lem)

-- ---- The first number is 0 exactly where what is handed in can be written, and fits

module _ (g : Given) (r₀ r : Bytes) (a : List ℕ) (p : Promise g r₀ (written_told a) r) where
  abbrev Good : Type 0
  Good = (x : Reading) × Accepted g x × (length (canon_text x) ≤ length r₀)

  told : written_told a ≡ Ok (number a 1) → Good
  told h =
      let q = subst (λ (y : Result ℕ TextRefusal). Promise g r₀ y r) h p in
      let d = (q.accepted (number a 1)).0 refl in
      (d.0, d.1, omega (arith, d.2, d.3))

  kept : Good → (n : ℕ) → written_told a ≡ Err (record { no = n; line = (number a 1); column = (number a 2) }) → ⊥
  kept x n h =
      let q = subst (λ (y : Result ℕ TextRefusal). Promise g r₀ y r) h p in
      let e = (q.accepted (length (canon_text x.0))).1 (x.0, x.1, refl, x.2) in
      absurd (let z : ◌≡◌ {A = ℕ} 0 1 = cc in omega arith)

  pub write_good : (number a 0 ≡ 0) ↔ Good
  unfolding written_told
  write_good = zero_exactly (number a 0) (Ok (number a 1)) (λ (e : ℕ). Err (record { no = e; line = (number a 1); column = (number a 2) })) told kept
