-- Two verdicts that are the same: both accept and the same, or both refuse with the same three numbers.
use Rattle.std.specs.Prelude.{ℕ, ◌≡◌}
use Rattle.std.proofs.Common.{arith, subst}
use Rattle.judge_file.specs.Verdict.{Verdict, accepted, refused}

pub accepted_refused : {A X : Type 0} {a : A} {e i c : ℕ} → ◌≡◌ {A = Verdict A} (accepted a) (refused e i c) → X
accepted_refused h = absurd (let z : ◌≡◌ {A = ℕ} 0 1 = cc in omega arith)

pub same_accepted : {A : Type 0} {a b : A} → ◌≡◌ {A = Verdict A} (accepted a) (accepted b) → a ≡ b
same_accepted h = cc

pub same_numbers : {A : Type 0} {e i c n j d : ℕ} → ◌≡◌ {A = Verdict A} (refused e i c) (refused n j d) → (e ≡ n) × (i ≡ j) × (c ≡ d)
same_numbers h = (cc, cc, cc)

-- what is said of the three numbers of one is said of those of the other
pub same_reason : {A : Type 0} (R : ℕ → ℕ → ℕ → Type 0) {e i c n j d : ℕ} → ◌≡◌ {A = Verdict A} (refused e i c) (refused n j d) → R e i c → R n j d
same_reason R {e} {i} {c} {n} {j} {d} h r =
    let z = same_numbers h in
    subst (R n j) z.2 (subst (λ (k : ℕ). R n k c) z.1 (subst (λ (k : ℕ). R k i c) z.0 r))
