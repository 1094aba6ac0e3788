-- Answers as arrays of numbers: the first is 0, or the number of the refusal, and then the next two are its line and column.
use Rattle.std.specs.Prelude.{ℕ, zero, suc, ◌≤◌, ◌≡◌, refl, ◌↔◌, List, get_or}
use Rattle.std.proofs.Common.{arith}

-- answer[i], as C counts
abbrev pub number : List ℕ → ℕ → ℕ
number a i = get_or a i 0

-- what an array tells by its first number: what was found, or the refusal of that number
abbrev pub by_first : {A : Type 0} → ℕ → A → (ℕ → A) → A
by_first zero found refused = found
by_first (suc e) found refused = refused (suc e)

pub first_refused : {A : Type 0} (e : ℕ) (x : A) (refused : ℕ → A) → 1 ≤ e → by_first e x refused ≡ refused e
first_refused zero x refused h = absurd (omega (arith, h))
first_refused (suc e) x refused h = refl

-- The first number is 0 exactly for good input, if what is then told is good, and good input is told as no refusal.
pub zero_exactly : {A Good : Type 0} (e : ℕ) (x : A) (refused : ℕ → A) →
    (by_first e x refused ≡ x → Good) → (Good → (n : ℕ) → by_first e x refused ≡ refused n → ⊥) → (e ≡ 0) ↔ Good
zero_exactly zero x refused told kept = ((λ h. told refl), (λ g. refl))
zero_exactly (suc e) x refused told kept = ((λ h. absurd (omega (arith, h))), (λ g. absurd (kept g (suc e) refl)))
