-- The answer of the check of a whole file: what the array tells in the words of the rules.
use Rattle.std.specs.Prelude.{Result, ℕ, zero, suc, ◌≤◌, ◌≡◌, refl, ◌↔◌, List, length}
use Rattle.std.proofs.Common.{arith, sym, ap, ◌∙◌, subst}
use Rattle.text.specs.Text.{Bytes}
use Rattle.rules.specs.Record.{Raw, GoodMolfile, GoodSDfile}
use Rattle.judge_file.specs.Place.{FileKind}
use Rattle.judge_file.specs.Verdict.{Verdict, accepted, refused}
use Rattle.judge_file.specs.SameVerdict.{accepted_refused, same_numbers}
use Rattle.reader_walk.specs.Promise.{RefusedAt, CheckedAs}
use Rattle.reader_walk.specs.Checking.{check_of}
use Rattle.judge_file.specs.declared.TextRefusal.{TextRefusal}
use Rattle.reader_check.specs.Promised.{numbers_of, Promised}
use Rattle.capellanote_numbers.specs.Numbers.{check_numbers}
use Rattle.capellanote.specs.Answer.{number, by_first, first_refused, zero_exactly}

-- what an array tells
unfoldable pub check_told : List ℕ → Verdict ℕ
check_told a = by_first (number a 0) (accepted (number a 1)) (λ e. refused e (number a 1) (number a 2))

-- by the rules the file is good: kind 0 is a molfile, kind 1 an SDfile
abbrev pub GoodFile : ℕ → Bytes → Type 0
GoodFile zero s = (x : Raw) × GoodMolfile s x
GoodFile (suc zero) s = (xs : List Raw) × GoodSDfile s xs
GoodFile (suc (suc kind)) s = ⊥

-- ---- It tells that answer, since no refusal has the number 0

pub at_numbered : {kind : FileKind} {s : Bytes} {e i column : ℕ} → RefusedAt kind s e i column → 1 ≤ e
at_numbered (RefusedAt.line h m c d why) = omega (arith, m.0)
at_numbered (RefusedAt.cut_short h v bad) = omega arith

numbered : (kind : ℕ) (s : Bytes) (e i column : ℕ) → CheckedAs kind s (refused e i column) → 1 ≤ e
numbered zero s e i column p = at_numbered (p.refuses e i column refl)
numbered (suc zero) s e i column p = at_numbered (p.refuses e i column refl)
numbered (suc (suc kind)) s e i column p = let z = same_numbers p in omega (arith, z.0)

tells : (kind : ℕ) (s : Bytes) (x : Verdict ℕ) → CheckedAs kind s x → check_told (check_numbers x) ≡ x
unfolding check_numbers check_told
tells kind s (accepted n) p = refl
tells kind s (refused e i column) p = first_refused e (accepted i) (λ (n : ℕ). refused n i column) (numbered kind s e i column p)

module _ (kind : ℕ) (s : Bytes) (r : Result ℕ TextRefusal) (out : List ℕ) (e : out ≡ check_numbers (numbers_of r)) (p : Promised kind s r) where
  pub check_held : out ≡ check_numbers (check_of kind s)
  check_held = e ∙ ap check_numbers p.judged

  pub check_told_lem : CheckedAs kind s (check_told out)
  check_told_lem = subst (CheckedAs kind s) (sym (ap check_told e ∙ tells kind s (numbers_of r) p.checked)) p.checked

pub ruleset check_laws = (check_held, check_told_lem)

-- ---- The first number is 0 exactly for a good file

module _ (s : Bytes) (a : List ℕ) where
  told : (kind : ℕ) → CheckedAs kind s (check_told a) → check_told a ≡ accepted (number a 1) → GoodFile kind s
  told zero p h = let g = (p.accepts (number a 1)).0 h in (g.0, g.1)
  told (suc zero) p h = let g = (p.accepts (number a 1)).0 h in (g.0, g.1)
  told (suc (suc kind)) p h = accepted_refused (sym h ∙ p)

  kept : (kind : ℕ) → CheckedAs kind s (check_told a) → GoodFile kind s → (n : ℕ) → check_told a ≡ refused n (number a 1) (number a 2) → ⊥
  kept zero p g n h = accepted_refused (sym ((p.accepts 1).1 (g.0, g.1, refl)) ∙ h)
  kept (suc zero) p g n h = accepted_refused (sym ((p.accepts (length g.0)).1 (g.0, g.1, refl)) ∙ h)
  kept (suc (suc kind)) p g n h = absurd g

  pub check_good : (kind : ℕ) → CheckedAs kind s (check_told a) → (number a 0 ≡ 0) ↔ GoodFile kind s
  unfolding check_told
  check_good kind p = zero_exactly (number a 0) (accepted (number a 1)) (λ (e : ℕ). refused e (number a 1) (number a 2)) (told kind p) (kept kind p)
