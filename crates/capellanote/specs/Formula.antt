-- The answer of the comparison of a formula: what the array holds, and what it tells in the words of the rules.
use Rattle.std.specs.Prelude.{Result, Ok, Err, ℕ, ◌≤◌, ◌≡◌, List, [], ◌∷◌, length, ℤ}
use Rattle.std.proofs.Common.{arith, sym, ◌∙◌, subst}
use Rattle.std.proofs.Math.Path.{refl, ap}
use Rattle.text.specs.Text.{Bytes, Line}
use Rattle.judge_file.specs.Verdict.{accepted, refused, mapped}
use Rattle.judge_file.specs.SameVerdict.{accepted_refused, same_numbers}
use Rattle.formula_rules.specs.Verdict.{Judged}
use Rattle.formula_rules.specs.Verdict as W
use Rattle.judge_file.specs.declared.TextRefusal.{TextRefusal}
use Rattle.formula_record.specs.Said.{Said}
use Rattle.formula_record.specs.Promise.{Compares, ComparePromise}
use Rattle.formula_record.specs.Agree.{record_number}
use Rattle.capellanote.specs.Answer.{number, by_first, first_refused}
use Rattle.capellanote.specs.Read.{by_room_lem}

-- 0, elements that differ, 0
unfoldable pub compared_numbers : Result ℕ TextRefusal → List ℕ
compared_numbers (Ok count) = 0 ∷ (count ∷ (0 ∷ []))
compared_numbers (Err r) = r.no ∷ (r.line ∷ (r.column ∷ []))

-- what an array tells
unfoldable pub compared_told : List ℕ → Result ℕ TextRefusal
compared_told a = by_first (number a 0) (Ok (number a 1)) (λ e. Err (record { no = e; line = (number a 1); column = (number a 2) }))

-- ---- The array, of the answer

module _ (r : Result ℕ TextRefusal) where
  pub compared_differ : (count : ℕ) → r ≡ Ok count → 0 ∷ (count ∷ (0 ∷ [])) ≡ compared_numbers r
  unfolding compared_numbers
  compared_differ count h = ap compared_numbers (sym h)

  pub compared_refused : (f : TextRefusal) → r ≡ Err f → f.no ∷ (f.line ∷ (f.column ∷ [])) ≡ compared_numbers r
  unfolding compared_numbers
  compared_refused f h = ap compared_numbers (sym h)

pub ruleset compared_array = (compared_differ, compared_refused)

-- ---- It tells that answer, since no refusal has the number 0

judged_number : {l : Line} {n : ℕ} → Judged l (W.refused n) → 1 ≤ n
judged_number (Judged.no_formula h) = omega arith
judged_number (Judged.too_deep f h) = omega arith
judged_number (Judged.too_many f i h) = omega arith

said_number : {s : Bytes} {e i column : ℕ} → Compares s (refused e i column) → 1 ≤ e
said_number (Compares.no_record n) = omega (arith, record_number n)
said_number (Compares.no_item g n) = omega arith
said_number (Compares.no_line g f) = omega arith
said_number (Compares.no_formula g f j) = judged_number j
said_number (Compares.not_comparable g f j n) = omega arith

told_number : (s : Bytes) (e i column : ℕ) (w : Said) → Compares s w → refused e i column ≡ mapped length w → 1 ≤ e
told_number s e i column (accepted ds) c h = accepted_refused (sym h)
told_number s e i column (refused n j d) c h = let z = same_numbers h in omega (arith, z.0, said_number c)

module _ (s : Bytes) (ta tb : List ℤ) (f : List ℕ) where
  numbered : (r : TextRefusal) (ta' tb' : List ℤ) (f' : List ℕ) → ComparePromise s ta tb f (Err r) ta' tb' f' → 1 ≤ r.no
  numbered r ta' tb' f' p =
      by_room_lem ta tb (λ y. let w = p.compares y in told_number s r.no r.line r.column w.0 w.1 w.2) (λ n. let z = same_numbers (p.no_room n).0 in omega (arith, z.0))

  tells : (r : Result ℕ TextRefusal) (ta' tb' : List ℤ) (f' : List ℕ) → ComparePromise s ta tb f r ta' tb' f' → compared_told (compared_numbers r) ≡ r
  unfolding compared_numbers compared_told
  tells (Ok count) ta' tb' f' p = refl
  tells (Err w) ta' tb' f' p = first_refused w.no (Ok w.line) (λ (n : ℕ). Err (record { no = n; line = w.line; column = w.column })) (numbered w ta' tb' f' p)

  pub compared_told_lem : (r : Result ℕ TextRefusal) (ta' tb' : List ℤ) (f' out : List ℕ) → out ≡ compared_numbers r → ComparePromise s ta tb f r ta' tb' f' → ComparePromise s ta tb f (compared_told out) ta' tb' f'
  compared_told_lem r ta' tb' f' out e p = subst (λ (x : Result ℕ TextRefusal). ComparePromise s ta tb f x ta' tb' f') (sym (ap compared_told e ∙ tells r ta' tb' f' p)) p

pub compared_held : (x y : Result ℕ TextRefusal) (out : List ℕ) → out ≡ compared_numbers x → x ≡ y → out ≡ compared_numbers y
compared_held x y out e h = e ∙ ap compared_numbers h
