-- `field_coordinates::digits_at` meets its contract.
use Rattle.std.proofs.Common.{arith, rules, ◌+◌, ◌≤◌}
use Rattle.field_coordinates.proofs.Fields.{digits_laws, no_whole, no_part, size_range}
use Rattle.field_coordinates.proofs.digits_at.Goals as goal
use Rattle.field_coordinates.proofs.digits_at.Goals.{In_ok-part}

-- at most five digits before the point, and four after it
small : (c : In_ok-part) → (c.in_ok-whole.whole ≤ 99999) × (c.in_ok-part.part ≤ 9999)
small c =
    let a = c.args in (
      size_range a.line.now a.a a.p 5 c.in_ok-whole.whole c.inner_digits.result (omega arith) c.inner_digits.ensures c.in_ok-whole.was,
      size_range a.line.now (a.p + 1) (a.p + 5) 4 c.in_ok-part.part c.inner_digits-2.result (omega arith) c.inner_digits-2.ensures c.in_ok-part.was,
    )

pub returns-in_err-whole : goal.returns-in_err-whole
returns-in_err-whole c = rw c.from_residual.ensures (no_whole _ _ _ _ _ c.inner_digits.ensures c.in_err-whole.was)

pub returns-in_err-part : goal.returns-in_err-part
returns-in_err-part c =
    rw c.from_residual-in_err-part.ensures
    (no_part _ _ _ _ _ c.inner_digits.ensures _ c.in_ok-whole.was _ c.inner_digits-2.ensures c.in_err-part.was)

pub overflow_mul-whole : goal.overflow_mul-whole
overflow_mul-whole c = omega (arith, small c)

pub overflow_add-whole : goal.overflow_add-whole
overflow_add-whole c = omega (arith, small c)

pub with_sign-requires : goal.with_sign-requires
with_sign-requires c = omega (arith, small c)

pub returns : goal.returns
returns c = search (rules, digits_laws, c.in_ok-whole.was, c.in_ok-part.was)
