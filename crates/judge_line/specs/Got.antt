-- What judging a part of a line finds: its value, or a refusal with its number and column.
use Rattle.std.specs.Prelude.{IsErrAnd, ◌≡◌, ℕ, Bool, true, false, Result, Ok, Err}
use Rattle.std.proofs.Common.{ap}
use Rattle.judge_line.specs.declared.Refusal.{Refusal}

pub data Got (A : Type 0) : Type 0 where
  got : A → Got A
  bad : ℕ → ℕ → Got A

-- go on with the value
unfoldable pub then : {A B : Type 0} → Got A → (A → Got B) → Got B
then (got a) f = f a
then (bad e column) f = bad e column

-- go on where the test holds
unfoldable pub need : {A : Type 0} → Bool → ℕ → ℕ → Got A → Got A
need true e column x = x
need false e column x = bad e column

-- what code answers, as the judge says it
abbrev pub got_by : {T A : Type 0} → (T → A) → Result T Refusal → Got A
got_by f (Ok x) = got (f x)
got_by f (Err r) = bad r.no r.column

-- refusals that are the same
pub err_same : {T : Type 0} {e f : Refusal} → ◌≡◌ {A = Result T Refusal} (Err e) (Err f) → e ≡ f
err_same h = cc

-- a refusal that is handed on is the one that came
pub is_err_of : {T : Type 0} (x : Result T Refusal) (r : Refusal) → IsErrAnd x (λ e. e ≡ r) → x ≡ Err r
is_err_of (Ok t) r h = absurd h
is_err_of (Err e) r h = ap Err h
