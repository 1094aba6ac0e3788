-- The answer of mending: what the array holds, and what it tells in the words of the rules.
use Rattle.std.specs.Prelude.{ℕ, ◌≤◌, ◌≡◌, List, [], ◌∷◌}
use Rattle.std.proofs.Common.{arith, sym, ◌∙◌, subst}
use Rattle.std.proofs.Math.Path.{refl, ap}
use Rattle.text.specs.Text.{Bytes}
use Rattle.judge_file.specs.Place.{sdfile}
use Rattle.judge_file.specs.SameVerdict.{accepted_refused, same_numbers}
use Rattle.reader_walk.specs.Promise.{RefusedAt}
use Rattle.mend_file.specs.declared.Mended.{Mended}
use Rattle.mend_file.specs.Promise.{numbers_of, Promise}
use Rattle.capellanote.specs.Answer.{number, by_first, first_refused}

-- 0, length, repairs
unfoldable pub mend_numbers : Mended → List ℕ
mend_numbers (Mended.Done bytes repairs) = 0 ∷ (bytes ∷ (repairs ∷ []))
mend_numbers (Mended.Refused e i column) = e ∷ (i ∷ (column ∷ []))

-- what an array tells
unfoldable pub mend_told : List ℕ → Mended
mend_told a = by_first (number a 0) (Mended.Done (number a 1) (number a 2)) (λ e. Mended.Refused e (number a 1) (number a 2))

-- ---- The array, of the answer

module _ (r : Mended) where
  pub mend_done : (bytes repairs : ℕ) → r ≡ Mended.Done bytes repairs → 0 ∷ (bytes ∷ (repairs ∷ [])) ≡ mend_numbers r
  unfolding mend_numbers
  mend_done bytes repairs h = ap mend_numbers (sym h)

  pub mend_refused : (e i column : ℕ) → r ≡ Mended.Refused e i column → e ∷ (i ∷ (column ∷ [])) ≡ mend_numbers r
  unfolding mend_numbers
  mend_refused e i column h = ap mend_numbers (sym h)

pub ruleset mend_array = (mend_done, mend_refused)

-- ---- It tells that answer, since no refusal has the number 0

line_number : {t : Bytes} {e i column : ℕ} → RefusedAt sdfile t e i column → 1 ≤ e
line_number (RefusedAt.line h m c f b) = omega (arith, m.0)
line_number (RefusedAt.cut_short h v n) = omega arith

module _ (s : Bytes) (room list room' list' : List ℕ) where
  abbrev Promised : Mended → Type 0
  Promised r = Promise s room list (numbers_of r) room' list'

  numbered : (e i column : ℕ) → Promised (Mended.Refused e i column) → 1 ≤ e
  numbered e i column (Promise.bad f h a b) = let z = same_numbers h in omega (arith, z.0, line_number f)
  numbered e i column (Promise.no_room g n h a b) = let z = same_numbers h in omega (arith, z.0)
  numbered e i column (Promise.no_list g n k h a b) = let z = same_numbers h in omega (arith, z.0)
  numbered e i column (Promise.done g n k h a b) = accepted_refused (sym h)

  tells : (r : Mended) → Promised r → mend_told (mend_numbers r) ≡ r
  unfolding mend_numbers mend_told
  tells (Mended.Done bytes repairs) p = refl
  tells (Mended.Refused e i column) p = first_refused e (Mended.Done i column) (λ (n : ℕ). Mended.Refused n i column) (numbered e i column p)

  pub mend_told_lem : (r : Mended) (out : List ℕ) → out ≡ mend_numbers r → Promised r → (out ≡ mend_numbers (mend_told out)) × Promised (mend_told out)
  mend_told_lem r out e p =
      let is : mend_told out ≡ r = ap mend_told e ∙ tells r p in
      (e ∙ ap mend_numbers (sym is), subst Promised (sym is) p)

module _ (s : Bytes) (room list room' list' : List ℕ) (r : Mended) (out : List ℕ) (e : out ≡ mend_numbers r) (p : Promise s room list (numbers_of r) room' list') where
  pub mend_held : out ≡ mend_numbers (mend_told out)
  mend_held = (mend_told_lem s room list room' list' r out e p).0

  pub mend_promised : Promise s room list (numbers_of (mend_told out)) room' list'
  mend_promised = (mend_told_lem s room list room' list' r out e p).1

pub ruleset mend_laws = (mend_held, mend_promised)
