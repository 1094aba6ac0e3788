-- What the code says of a field, as the judge says it.
use Rattle.std.specs.Prelude.{Result, Ok, Err, ℕ, ℤ}
use Rattle.judge_line.specs.Got.{got_by, Got, got, bad}
use Rattle.judge_line.specs.declared.Refusal.{Refusal}

abbrev pub field_got : Result ℕ Refusal → Got ℕ
field_got x = got_by (λ k. k) x

abbrev pub signed_field_got : Result ℤ Refusal → Got ℤ
signed_field_got x = got_by (λ z. z) x
