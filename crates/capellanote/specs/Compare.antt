-- The answer of the comparison of two files: what the array holds, and what it tells in the words of the rules.
use Rattle.std.specs.Prelude.{Result, Ok, Err, ℕ, ◌≤◌, ◌≡◌, List, [], ◌∷◌, ℤ}
use Rattle.std.proofs.Common.{arith, sym, ◌∙◌, subst}
use Rattle.std.proofs.Math.Path.{refl, ap}
use Rattle.text.specs.Text.{Bytes}
use Rattle.judge_file.specs.declared.TextRefusal.{TextRefusal}
use Rattle.compare_files.specs.Compare.{Work}
use Rattle.compare_files.specs.Promise.{Refusal, Promise}
use Rattle.capellanote.specs.Answer.{number, by_first, first_refused}

-- 0, differences, 0
unfoldable pub files_numbers : Result ℕ TextRefusal → List ℕ
files_numbers (Ok count) = 0 ∷ (count ∷ (0 ∷ []))
files_numbers (Err r) = r.no ∷ (r.line ∷ (r.column ∷ []))

-- what an array tells
unfoldable pub files_told : List ℕ → Result ℕ TextRefusal
files_told a = by_first (number a 0) (Ok (number a 1)) (λ e. Err (record { no = e; line = (number a 1); column = (number a 2) }))

-- ---- The array, of the answer

module _ (r : Result ℕ TextRefusal) where
  pub files_done : (count : ℕ) → r ≡ Ok count → 0 ∷ (count ∷ (0 ∷ [])) ≡ files_numbers r
  unfolding files_numbers
  files_done count h = ap files_numbers (sym h)

  pub files_refused : (f : TextRefusal) → r ≡ Err f → f.no ∷ (f.line ∷ (f.column ∷ [])) ≡ files_numbers r
  unfolding files_numbers
  files_refused f h = ap files_numbers (sym h)

pub ruleset files_array = (files_done, files_refused)

-- ---- It tells that answer, since no refusal has the number 0

some_number : {a b : Bytes} {w : Work} {k e i column : ℕ} → Refusal a b w k e i column → 1 ≤ e
some_number (Refusal.tables h) = omega arith
some_number (Refusal.old r f) = omega arith
some_number (Refusal.new r g f) = omega arith
some_number (Refusal.list r g h f) = omega arith

module _ (a b : Bytes) (w₀ : Work) (l₀ : List ℤ) where
  tells : (r : Result ℕ TextRefusal) (w : Work) (l : List ℤ) → Promise a b w₀ l₀ r w l → files_told (files_numbers r) ≡ r
  unfolding files_numbers files_told
  tells (Ok count) w l p = refl
  tells (Err f) w l p = first_refused f.no (Ok f.line) (λ (n : ℕ). Err (record { no = n; line = f.line; column = f.column })) (some_number ((p.refused f.no f.line f.column).0 refl))

  pub files_told_lem : (r : Result ℕ TextRefusal) (w : Work) (l : List ℤ) (out : List ℕ) → out ≡ files_numbers r → Promise a b w₀ l₀ r w l → Promise a b w₀ l₀ (files_told out) w l
  files_told_lem r w l out e p = subst (λ (x : Result ℕ TextRefusal). Promise a b w₀ l₀ x w l) (sym (ap files_told e ∙ tells r w l p)) p

pub files_held : (x y : Result ℕ TextRefusal) (out : List ℕ) → out ≡ files_numbers x → x ≡ y → out ≡ files_numbers y
files_held x y out e h = e ∙ ap files_numbers h
