-- The answer of a step over items: what the array holds, and what it tells in the words of the rules.
use Rattle.std.specs.Prelude.{ℕ, zero, suc, ◌≤◌, ◌≡◌, refl, List, [], ◌∷◌}
use Rattle.std.proofs.Common.{arith, sym, ◌∙◌, subst}
use Rattle.std.proofs.Math.Path.{ap}
use Rattle.text.specs.Text.{Bytes}
use Rattle.reader_items.specs.declared.ItemAt.{ItemAt}
use Rattle.reader_items.specs.Step.{step_of}
use Rattle.reader_items.specs.Promise.{Stepped}
use Rattle.reader_items.proofs.Stepping.{step_numbered}
use Rattle.capellanote.specs.Answer.{number, by_first, first_refused}

-- 0; 1 for an item, 0 for the end of the record; start and end of the name and of the values, what comes next, lines
unfoldable pub step_numbers : ItemAt → List ℕ
step_numbers (ItemAt.Item a b from to n k) = 0 ∷ (1 ∷ (a ∷ (b ∷ (from ∷ (to ∷ (n ∷ (k ∷ [])))))))
step_numbers (ItemAt.End n) = 0 ∷ (0 ∷ (0 ∷ (0 ∷ (0 ∷ (0 ∷ (n ∷ (1 ∷ [])))))))
step_numbers (ItemAt.Refused e i column) = e ∷ (i ∷ (column ∷ (0 ∷ (0 ∷ (0 ∷ (0 ∷ (0 ∷ [])))))))

-- what an array tells
abbrev pub by_item : ℕ → List ℕ → ItemAt
by_item zero a = ItemAt.End (number a 6)
by_item (suc k) a = ItemAt.Item (number a 2) (number a 3) (number a 4) (number a 5) (number a 6) (number a 7)

unfoldable pub step_told : List ℕ → ItemAt
step_told a = by_first (number a 0) (by_item (number a 1) a) (λ e. ItemAt.Refused e (number a 1) (number a 2))

-- ---- The array, of the answer

module _ (x : ItemAt) where
  pub step_item : (a b from to n k : ℕ) → x ≡ ItemAt.Item a b from to n k → 0 ∷ (1 ∷ (a ∷ (b ∷ (from ∷ (to ∷ (n ∷ (k ∷ []))))))) ≡ step_numbers x
  unfolding step_numbers
  step_item a b from to n k h = ap step_numbers (sym h)

  pub step_end : (n : ℕ) → x ≡ ItemAt.End n → 0 ∷ (0 ∷ (0 ∷ (0 ∷ (0 ∷ (0 ∷ (n ∷ (1 ∷ []))))))) ≡ step_numbers x
  unfolding step_numbers
  step_end n h = ap step_numbers (sym h)

  pub step_refused : (e i column : ℕ) → x ≡ ItemAt.Refused e i column → e ∷ (i ∷ (column ∷ (0 ∷ (0 ∷ (0 ∷ (0 ∷ (0 ∷ []))))))) ≡ step_numbers x
  unfolding step_numbers
  step_refused e i column h = ap step_numbers (sym h)

pub ruleset step_array = (step_item, step_end, step_refused)

-- ---- It tells that answer, since no refusal has the number 0

tells : (s : Bytes) (at : ℕ) (x : ItemAt) → Stepped s at x → step_told (step_numbers x) ≡ x
unfolding step_numbers step_told
tells s at (ItemAt.Item a b from to n k) p = refl
tells s at (ItemAt.End n) p = refl
tells s at (ItemAt.Refused e i column) p =
    let some : 1 ≤ e = omega (arith, step_numbered s at e i column (sym p.judged)) in
    first_refused e (by_item i (step_numbers (ItemAt.Refused e i column))) (λ (n : ℕ). ItemAt.Refused n i column) some

module _ (s : Bytes) (at : ℕ) (x : ItemAt) (out : List ℕ) (e : out ≡ step_numbers x) (p : Stepped s at x) where
  pub step_held : out ≡ step_numbers (step_of s at)
  step_held = e ∙ ap step_numbers p.judged

  pub step_told_lem : Stepped s at (step_told out)
  step_told_lem = subst (Stepped s at) (sym (ap step_told e ∙ tells s at x p)) p

pub ruleset step_laws = (step_held, step_told_lem)
